-- What a line of a script asks for. Assumes nothing.
use Rattle.std.specs.Prelude.{ℕ, cond, ◌&&◌, List, [], ◌∷◌, length, Some, None, Err, Option, Result, ◌==◌}
use Rattle.std.specs.Option.{option_map, ok_or}
use Rattle.wire.specs.declared.refusal.Refusal.{Refusal}
use Rattle.wire.specs.declared.refusal.Refusal.TheVariants.{Script}
use Rattle.text.specs.Hex.{hex_number}
use Rattle.script.specs.declared.order.Order.{Order}
use Rattle.script.specs.declared.order.Order.TheVariants.{Offer, Send, Hear, Settle, Tick, Round, SenderLabel, ReceiverLabel, RawForward, RawBack}

-- a space, and then the number that so many digits write
abbrev pub spaced_number : ℕ → List ℕ → Option ℕ
spaced_number count [] = None
spaced_number count (c ∷ digits) = cond (c == 32 && length digits == count) (hex_number digits) None

-- an order that takes nothing
abbrev pub bare_order : List ℕ → Order → Option Order
bare_order [] order = Some order
bare_order (c ∷ rest) order = None

-- by the letter: o, s, h, a, t, r, S, R, F, B
abbrev pub by_letter : ℕ → List ℕ → Option Order
by_letter letter rest =
    cond (letter == 111) (option_map Offer (spaced_number 9 rest))
    (cond (letter == 115) (bare_order rest Send)
    (cond (letter == 104) (bare_order rest Hear)
    (cond (letter == 97) (bare_order rest Settle)
    (cond (letter == 116) (bare_order rest Tick)
    (cond (letter == 114) (bare_order rest Round)
    (cond (letter == 83) (option_map SenderLabel (spaced_number 2 rest))
    (cond (letter == 82) (option_map ReceiverLabel (spaced_number 2 rest))
    (cond (letter == 70) (option_map RawForward (spaced_number 16 rest))
    (cond (letter == 66) (option_map RawBack (spaced_number 16 rest))
    None)))))))))

-- an empty line asks for nothing
abbrev pub order_of : List ℕ → Result Order Refusal
order_of [] = Err Script
order_of (letter ∷ rest) = ok_or (by_letter letter rest) Script
