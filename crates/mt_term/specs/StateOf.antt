-- What a state of the program says.
use Rattle.std.specs.Prelude.{Option, Some, None}
use Rattle.mt_term.specs.TreeOf.{tree_of}
use Rattle.mt_term.specs.EnvironmentOf.{environment_of}
use Rattle.mt_term.specs.ScriptState.{Proof, State}
use Rattle.mt_term.specs.declared.states.PlainProof.{PlainProof}
use Rattle.mt_term.specs.declared.states.PlainState.{PlainState}

abbrev pub proof_of : PlainProof → Proof
proof_of p = record { name = p.name; ty = tree_of p.ty; root = p.root; goals = p.goals }

abbrev pub open_proof_of : Option PlainProof → Option Proof
open_proof_of None = None
open_proof_of (Some p) = Some (proof_of p)

abbrev pub state_of : PlainState → State
state_of s =
    record {
      env = environment_of s.env;
      store = s.store.metas;
      proof = open_proof_of s.proof;
      units = s.units;
      place = s.place;
      notes = s.notes;
    }
