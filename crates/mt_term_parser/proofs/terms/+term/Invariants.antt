use Rattle.std.proofs.Common.{◌+◌, ◌-◌, ◌*◌, ◌<◌, ◌≤◌, length, map}
use Rattle.std.specs.Str.{IsCharBoundary}
use Rattle.mt_term_parser.specs.Readings.{many_from, sees_sign}
use Rattle.mt_term_parser.specs.WrittenOf.{written_of, case_of}
use Rattle.mt_term_parser.specs.Grammar.{arm, argument, led, separated, sees_argument, term}
use Rattle.mt_term_parser.proofs.Rows.{Row}
use Rattle.mt_term_parser.proofs.terms.+term.Given as goal

abbrev pub decreases-term : goal.decreases-term
decreases-term l = 20 * l.room

abbrev pub decreases-term_by : goal.decreases-term_by
decreases-term_by l = 20 * l.room + 19

abbrev pub decreases-lambda : goal.decreases-lambda
decreases-lambda l = 20 * l.room + 10

abbrev pub decreases-product : goal.decreases-product
decreases-product l = 20 * l.room + 10

abbrev pub decreases-domain : goal.decreases-domain
decreases-domain l = 20 * l.room + 1

abbrev pub decreases-arrow : goal.decreases-arrow
decreases-arrow l = 20 * l.room + 18

abbrev pub decreases-app : goal.decreases-app
decreases-app l = 20 * l.room + 17

abbrev pub decreases-arguments : goal.decreases-arguments
decreases-arguments l = 20 * l.room + 16

abbrev pub decreases-argument : goal.decreases-argument
decreases-argument l = 20 * l.room + 15

abbrev pub decreases-atom : goal.decreases-atom
decreases-atom l = 20 * l.room + 14

abbrev pub decreases-parenthesis : goal.decreases-parenthesis
decreases-parenthesis l = 20 * l.room + 13

abbrev pub decreases-matched_at : goal.decreases-matched_at
decreases-matched_at l = 20 * l.room + 13

abbrev pub decreases-returned : goal.decreases-returned
decreases-returned l = 20 * l.room + 1

abbrev pub decreases-match_body : goal.decreases-match_body
decreases-match_body l = 20 * l.room + 12

abbrev pub decreases-optional_arms : goal.decreases-optional_arms
decreases-optional_arms l = 20 * l.room + 11

abbrev pub decreases-arms : goal.decreases-arms
decreases-arms l = 20 * l.room + 10

abbrev pub decreases-next_arm : goal.decreases-next_arm
decreases-next_arm l = 20 * l.room + 9

abbrev pub decreases-arm : goal.decreases-arm
decreases-arm l = 20 * l.room + 8

abbrev pub invariant-arguments-row : goal.invariant-arguments-row
invariant-arguments-row l = record {
  boundary : IsCharBoundary l.text l.end;
  order : l.at ≤ l.end;
  row : Row l.text (sees_argument l.text) (argument (term l.room l.text) l.text) (many_from l.text (sees_argument l.text) (argument (term l.room l.text) l.text) l.at) (map written_of l.args.items) l.end;
}

abbrev pub decreases-arguments-row : goal.decreases-arguments-row
decreases-arguments-row l = length l.text - l.end

abbrev pub invariant-arms-row : goal.invariant-arms-row
invariant-arms-row l = record {
  boundary : IsCharBoundary l.text l.end;
  order : l.at < l.end;
  row : Row l.text (sees_sign 124 l.text) (led 124 l.text (arm (term l.room l.text) l.text)) (separated 124 l.text (arm (term l.room l.text) l.text) l.at) (map case_of l.arms.items) l.end;
}

abbrev pub decreases-arms-row : goal.decreases-arms-row
decreases-arms-row l = length l.text - l.end
