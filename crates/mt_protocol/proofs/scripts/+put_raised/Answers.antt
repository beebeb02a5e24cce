use Rattle.std.proofs.Common.{◌-◌, ◌<◌, codes, arith}
use Rattle.mt_protocol.specs.Scripts.{raised}
use Rattle.mt_protocol.proofs.Raising.{raised_more, three_put}
use Rattle.mt_protocol.proofs.scripts.+put_raised.Goals as goal

pub returns : goal.returns
returns m c =
    let big : 1 < c.args.k = omega arith in
    three_put c.args.out.now.items c.put-2.new.out.items c.put_raised.new.out.items c.put-3.new.out.items (codes "S (") (raised (c.args.k - 1) c.args.name.now) (codes ")")
    (raised c.args.k c.args.name.now) c.put-3.result c.in_ok-put-2.ensures c.in_ok-put_raised.ensures (raised_more c.args.k c.args.name.now big) c.put-3.ensures
