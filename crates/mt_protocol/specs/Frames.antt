-- What the bytes at a command's place show: lines, numbers and the texts that follow a line.
use Rattle.std.specs.Prelude.{◌≡◌, ◌<◌, ◌≤◌, ℕ, zero, suc, ◌+◌, ◌-◌, ◌*◌, Bool, true, false, ◌&&◌, ◌||◌, eqb, if◌then◌else◌, nat_lt, nat_le, List, [], ◌∷◌, ◌++◌, length, take, drop, slice_index, position, bytes_eq, codes, Option, Some, None}
use Rattle.std.specs.Str.{is_utf8}
use Rattle.mt_term.specs.Trees.{Bytes}
use Rattle.mt_protocol.specs.declared.commands.Command.{Command}
use Rattle.mt_protocol.specs.declared.commands.Command.TheVariants as command
use Rattle.mt_protocol.specs.declared.orders.Order.{Order}
use Rattle.mt_protocol.specs.declared.orders.Order.TheVariants as order
use Rattle.mt_protocol.specs.declared.frames.Shown.{Shown}
use Rattle.mt_protocol.specs.declared.frames.Shown.TheVariants.{Whole, Bad, Long, More}

-- ---- numbers

abbrev pub is_digit : ℕ → Bool
is_digit b = nat_le 48 b && nat_le b 57

abbrev pub are_digits : Bytes → Bool
are_digits [] = true
are_digits (b ∷ bs) = is_digit b && are_digits bs

-- digits after a number
abbrev pub value_onto : ℕ → Bytes → ℕ
value_onto n [] = n
value_onto n (b ∷ bs) = value_onto (n * 10 + (b - 48)) bs

-- the greatest number
abbrev pub greatest : ℕ
greatest = 4294967295

-- one to ten digits without a leading zero
abbrev pub is_spelled : Bytes → Bool
is_spelled bs = are_digits bs && nat_lt 0 (length bs) && nat_le (length bs) 10 && (eqb (length bs) 1 || nat_lt 48 (slice_index bs 0))

abbrev pub capped : ℕ → Option ℕ
capped n = if nat_le n greatest then Some n else None

-- a number of a line
unfoldable pub number : Bytes → Option ℕ
number bs = if is_spelled bs then capped (value_onto 0 bs) else None

-- ---- lines, without their ends

-- the bytes before the first space, and those after it
abbrev pub space_in : Bytes → Option ℕ
space_in bs = position (λ b. eqb b 32) bs

abbrev pub first_by : Bytes → Option ℕ → Bytes
first_by bs None = bs
first_by bs (Some n) = take n bs

abbrev pub rest_by : Bytes → Option ℕ → Option Bytes
rest_by bs None = None
rest_by bs (Some n) = Some (drop (n + 1) bs)

unfoldable pub first_word : Bytes → Bytes
first_word bs = first_by bs (space_in bs)

unfoldable pub after_word : Bytes → Option Bytes
after_word bs = rest_by bs (space_in bs)

abbrev pub ordered : {A : Type 0} → (A → Order) → Option A → Option Order
ordered make None = None
ordered make (Some n) = Some (make n)

-- three numbers
abbrev pub two_more : Option ℕ → Option ℕ → Option ℕ → Option Order
two_more (Some a) (Some b) (Some c) = Some (order.Edit a b c)
two_more _ _ _ = None

abbrev pub third_by : Bytes → Bytes → Option Bytes → Option Order
third_by a b (Some c) = two_more (number a) (number b) (number c)
third_by a b None = None

abbrev pub edit_by : Bytes → Option Bytes → Option Order
edit_by a (Some rest) = third_by a (first_word rest) (after_word rest)
edit_by a None = None

abbrev pub edit_of : Bytes → Option Order
edit_of rest = edit_by (first_word rest) (after_word rest)

-- a word with what follows it
abbrev pub with_rest : Bytes → Bytes → Option Order
with_rest word rest =
    if bytes_eq word (codes "text") then ordered order.Text (number rest) else
    (if bytes_eq word (codes "advance") then ordered order.Advance (number rest) else
    (if bytes_eq word (codes "retract") then ordered order.Retract (number rest) else
    (if bytes_eq word (codes "goto") then ordered order.Goto (number rest) else
    (if bytes_eq word (codes "edit") then edit_of rest else None))))

abbrev pub alone : Bytes → Option Order
alone word =
    if bytes_eq word (codes "show") then Some order.Show else
    (if bytes_eq word (codes "quit") then Some order.Quit else None)

abbrev pub order_by : Bytes → Option Bytes → Option Order
order_by word None = alone word
order_by word (Some rest) = with_rest word rest

-- what a line orders
unfoldable pub order_of : Bytes → Option Order
order_of line = order_by (first_word line) (after_word line)

-- ---- commands

-- the most bytes of a line, of a text and of the input
abbrev pub most_line : ℕ
most_line = 64

abbrev pub most_text : ℕ
most_text = 1048576

abbrev pub most_input : ℕ
most_input = 16777216

-- a text of so many bytes after a line of n bytes and its end: it is judged when the byte after it is there
abbrev pub framed : (Bytes → Command) → ℕ → ℕ → Bytes → Shown
framed make len n rest =
    if nat_lt most_text len then Long else
    (if nat_le (length rest) len then More else
    (if eqb (slice_index rest len) 10 && is_utf8 (take len rest) then Whole (make (take len rest)) (n + 1 + len + 1) else Bad))

-- by what the line of n bytes orders, and the bytes after its end
abbrev pub shown_by_order : ℕ → Bytes → Option Order → Shown
shown_by_order n rest None = Bad
shown_by_order n rest (Some (order.Text len)) = framed command.Text len n rest
shown_by_order n rest (Some (order.Edit start del len)) = framed (command.Edit start del) len n rest
shown_by_order n rest (Some (order.Advance k)) = Whole (command.Advance k) (n + 1)
shown_by_order n rest (Some (order.Retract k)) = Whole (command.Retract k) (n + 1)
shown_by_order n rest (Some (order.Goto k)) = Whole (command.Goto k) (n + 1)
shown_by_order n rest (Some order.Show) = Whole command.Show (n + 1)
shown_by_order n rest (Some order.Quit) = Whole command.Quit (n + 1)

-- by the line's end, where it is among the first 65 bytes
abbrev pub shown_by_line : Bytes → Option ℕ → Shown
shown_by_line bs (Some n) = shown_by_order n (drop (n + 1) bs) (order_of (take n bs))
shown_by_line bs None = if nat_lt most_line (length bs) then Bad else More

abbrev pub line_end : Bytes → Option ℕ
line_end bs = position (λ b. eqb b 10) (take (most_line + 1) bs)

-- a command is not longer than the bytes that show it
abbrev pub IsWithin : ℕ → Shown → Type 0
IsWithin n (Whole c size) = size ≤ n
IsWithin n s = Unit {0}

-- what the bytes at a command's place show
unfoldable pub shown : Bytes → Shown
shown bs = shown_by_line bs (line_end bs)

-- the same, where so many bytes of the input stand before: no byte past the most is looked at, and a command that needs one is too long
abbrev pub limited_by : ℕ → Bytes → Shown → Shown
limited_by room bs More = if nat_le room (length bs) && nat_lt 0 (length bs) then Long else More
limited_by room bs s = s

abbrev pub limited : ℕ → Bytes → Shown
limited used bs = limited_by (most_input - used) bs (shown (take (most_input - used) bs))
