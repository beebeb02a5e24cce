use Rattle.std.proofs.Common.{◌+◌, ◌-◌, ◌*◌, ◌<◌, ◌≤◌, length, map}
use Rattle.std.specs.Str.{IsCharBoundary}
use Rattle.mt_term_parser.specs.Readings.{many_from, sees_sign}
use Rattle.mt_term_parser.proofs.Rows.{Row}
use Rattle.mt_unit_parser.specs.BlockOf.{branch_of, led_of}
use Rattle.mt_unit_parser.specs.Blocks.{barred, branch_list, led_item, sees_separator, sequence}
use Rattle.mt_unit_parser.proofs.blocks.+sequence.Given as goal

abbrev pub decreases-sequence : goal.decreases-sequence
decreases-sequence l = 10 * l.room

abbrev pub decreases-items : goal.decreases-items
decreases-items l = 10 * l.room + 9

abbrev pub decreases-led_items : goal.decreases-led_items
decreases-led_items l = 10 * l.room + 8

abbrev pub decreases-led_item : goal.decreases-led_item
decreases-led_item l = 10 * l.room + 7

abbrev pub decreases-optional_item : goal.decreases-optional_item
decreases-optional_item l = 10 * l.room + 6

abbrev pub decreases-item_by : goal.decreases-item_by
decreases-item_by l = 10 * l.room + 5

abbrev pub decreases-branches : goal.decreases-branches
decreases-branches l = 10 * l.room + 4

abbrev pub decreases-branch_list : goal.decreases-branch_list
decreases-branch_list l = 10 * l.room + 3

abbrev pub decreases-barred : goal.decreases-barred
decreases-barred l = 10 * l.room + 2

abbrev pub decreases-branch : goal.decreases-branch
decreases-branch l = 10 * l.room + 1

abbrev pub decreases-focus : goal.decreases-focus
decreases-focus l = 10 * l.room + 4

abbrev pub invariant-led_items-row : goal.invariant-led_items-row
invariant-led_items-row l = record {
  boundary : IsCharBoundary l.text l.end;
  order : l.at ≤ l.end;
  row : Row l.text (sees_separator l.text) (led_item (200 - l.room) (sequence l.room l.text) l.text) (many_from l.text (sees_separator l.text) (led_item (200 - l.room) (sequence l.room l.text) l.text) l.at) (map led_of l.items.items) l.end;
}

abbrev pub decreases-led_items-row : goal.decreases-led_items-row
decreases-led_items-row l = length l.text - l.end

abbrev pub invariant-branch_list-row : goal.invariant-branch_list-row
invariant-branch_list-row l = record {
  boundary : IsCharBoundary l.text l.end;
  order : l.at ≤ l.end;
  row : Row l.text (sees_sign 124 l.text) (barred (sequence l.room l.text) l.text) (branch_list (sequence l.room l.text) l.text l.start l.at) (map branch_of l.list.items) l.end;
}

abbrev pub decreases-branch_list-row : goal.decreases-branch_list-row
decreases-branch_list-row l = length l.text - l.end
