use Rattle.std.proofs.Common.{◌≡◌, true, false, sym}
use Rattle.std.specs.Prelude.{is_some}
use Rattle.mt_resolver.specs.ScopeOf.{names_of}
use Rattle.mt_term.specs.EnvironmentOf.{environment_of}
use Rattle.mt_term.specs.Naming.{find}
use Rattle.mt_decl.proofs.FrontRules.{known-taken, known-else}
use Rattle.mt_decl.proofs.freshness.is_known.Goals as goal

pub returns-then-is_taken : goal.returns-then-is_taken
returns-then-is_taken c =
    let there : is_some (find c.args.names.now c.args.name.now) ≡ true = cc (c.as_bytes.ensures, c.is_taken.ensures, c.if-is_taken.true) in
    sym (known-taken c.args.names.now (environment_of c.args.env.now) (names_of c.args.earlier.now) c.args.name.now c.requires there)

pub returns : goal.returns
returns c =
    let not_there : is_some (find c.args.names.now c.args.name.now) ≡ false = cc (c.as_bytes.ensures, c.is_taken.ensures, c.if-is_taken.false) in
    let earlier = known-else c.args.names.now (environment_of c.args.env.now) (names_of c.args.earlier.now) c.args.name.now c.requires not_there in
    cc (earlier, c.is_some.ensures, c.in_ok-place_in.ensures, c.as_bytes-2.ensures)
