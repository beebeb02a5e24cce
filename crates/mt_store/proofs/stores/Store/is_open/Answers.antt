use Rattle.std.proofs.Common.{sym}
use Rattle.mt_store.proofs.HeldLaws.{open_meta, open_told, open_none}
use Rattle.mt_store.proofs.stores.Store.is_open.Goals as goal

pub returns-in-Some-clause-metas : goal.returns-in-Some-clause-metas
returns-in-Some-clause-metas c = λ p. open_meta p c.args.self.now c.args.n c.in-Some.meta.now c.is_none.result (sym c.in-Some.ensures) c.is_none.ensures

pub returns-in-Some-clause-only : goal.returns-in-Some-clause-only
returns-in-Some-clause-only c = λ p o. open_told p c.args.self.now c.args.n c.in-Some.meta.now c.is_none.result (sym c.in-Some.ensures) c.is_none.ensures o

pub returns-in-None-clause-only : goal.returns-in-None-clause-only
returns-in-None-clause-only c = λ p o. absurd (open_none p c.args.self.now c.args.n (sym c.in-None.ensures) o)
