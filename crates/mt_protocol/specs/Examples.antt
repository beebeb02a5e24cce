-- Commands, lines of a refusal and theorems, as examples.
use Rattle.std.specs.Prelude.{◌≡◌, refl, List, [], ◌∷◌, ◌++◌, codes, replicate, None}
use Rattle.std.specs.Fmt.{decimal}
use Rattle.mt_term.specs.Reasons.{Unbound, KernelRefused, Cycle}
use Rattle.mt_term.specs.Trees.{Bytes}
use Rattle.mt_protocol.specs.declared.commands.Command.TheVariants as command
use Rattle.mt_protocol.specs.declared.frames.Shown.TheVariants.{Whole, Bad, Long, More}
use Rattle.mt_protocol.specs.Frames.{after_word, first_word, limited, number, order_of, shown}
use Rattle.mt_protocol.specs.Replies.{more_text, place_text}
use Rattle.mt_protocol.specs.Scripts.{line_end, proof_end, theorem_head, theorem_of, theorem_on, theorem_sides}

-- a line with its end, and more bytes
abbrev line : Bytes → Bytes → Bytes
line bs more = bs ++ 10 ∷ more

-- ---- commands

leading_zero : shown (line (codes "advance 01") []) ≡ Bad
unfolding shown order_of first_word after_word number
leading_zero = refl

two_spaces : shown (line (codes "advance  1") []) ≡ Bad
unfolding shown order_of first_word after_word number
two_spaces = refl

long_line : shown (line (replicate 65 97) []) ≡ Bad
unfolding shown
long_line = refl

text_without_its_end : shown (line (codes "text 4") (codes "abcd")) ≡ More
unfolding shown order_of first_word after_word number
text_without_its_end = refl

text_with_another_end : shown (line (codes "text 4") (codes "abcd!")) ≡ Bad
unfolding shown order_of first_word after_word number
text_with_another_end = refl

after_quit : shown (line (codes "quit") (codes "%%")) ≡ Whole command.Quit 5
unfolding shown order_of first_word after_word number
after_quit = refl

first_of_two : shown (line (codes "retract 1") (codes "retract")) ≡ Whole (command.Retract 1) 10
unfolding shown order_of first_word after_word number
first_of_two = refl

unfinished_line : shown (codes "retract") ≡ More
unfolding shown
unfinished_line = refl

too_long_text : shown (line (codes "text 1048577") []) ≡ Long
unfolding shown order_of first_word after_word number
too_long_text = refl

-- no command that shows a place's state yet
at_a_place : shown (line (codes "at 15") []) ≡ Bad
unfolding shown order_of first_word after_word number
at_a_place = refl

-- a command that needs a byte past the most is too long, and one that ends at the most is not
past_the_input : limited 16777214 (line (codes "show") []) ≡ Long
unfolding shown
past_the_input = refl

ends_at_the_most : limited 16777211 (line (codes "show") []) ≡ Whole command.Show 5
unfolding shown order_of first_word after_word
ends_at_the_most = refl

-- ---- replies

place_reply : place_text 1 15 ≡ codes "ok " ++ decimal 1 ++ codes " " ++ decimal 15 ++ line_end
unfolding place_text
place_reply = refl

name_lines : more_text (record { entries = []; names = []; below = [] }) (Unbound (codes "b")) ≡ codes "  name b" ++ line_end
name_lines = refl

reason_lines : more_text (record { entries = []; names = []; below = [] }) (KernelRefused 7) ≡ codes "  reason " ++ decimal 7 ++ line_end
reason_lines = refl

no_lines : more_text (record { entries = []; names = []; below = [] }) Cycle ≡ []
no_lines = refl

-- ---- theorems

theorem_bare : theorem_of 10 ≡ theorem_head 10 ++ codes "O n) n" ++ proof_end
unfolding theorem_on theorem_sides
theorem_bare = refl

theorem_once : theorem_of 1 ≡ theorem_head 1 ++ codes "(S O) n) (S n)" ++ proof_end
unfolding theorem_on theorem_sides
theorem_once = refl

theorem_thrice : theorem_of 13 ≡ theorem_head 13 ++ codes "(S (S (S O))) n) (S (S (S n)))" ++ proof_end
unfolding theorem_on theorem_sides
theorem_thrice = refl
