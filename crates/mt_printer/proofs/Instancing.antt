-- Values of metavariables, one body further down.
use Rattle.std.proofs.Common.{◌≡◌, ◌<◌, ℕ, zero, suc, ◌-◌, List, ap, arith}
use Rattle.std.specs.Prelude.{Option, option_map, slice_get}
use Rattle.mt_term.specs.States.{Metavariable}
use Rattle.mt_term.specs.Instancing.{assigned_body, body_values, put_values}

pub value_step : (ms : List Metavariable) (k n : ℕ) → 0 < k → body_values ms k n ≡ option_map (put_values (body_values ms (k - 1))) (assigned_body (slice_get ms n))
value_step ms zero n lt = absurd (omega arith)
value_step ms (suc k) n lt = ap (λ m. option_map (put_values (body_values ms m)) (assigned_body (slice_get ms n))) (let e : k ≡ suc k - 1 = omega arith in e)
