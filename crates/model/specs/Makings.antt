-- A new link over shapes, computed. Assumes nothing.
use Rattle.std.specs.Prelude.{◌≡◌, ℕ, ◌≤◌, Bool, true, false, cond, ◌&&◌, nat_le, refl}
use Rattle.std.proofs.Common.{arith, leb-true}
use Rattle.std.proofs.lemmas.Bool.{and_parts}
use Rattle.ends.specs.declared.sender.State.TheVariants.{Idle}
use Rattle.codec.specs.declared.config.Config.{Config}
use Rattle.ends.specs.Observers.{unobserved}
use Rattle.codec.specs.Words.{label_count}
use Rattle.shapes.specs.Shapes.{Shape}
use Rattle.model.specs.Models.{Model}

-- a link has from 2 to 256 labels, whatever count it is asked for with
pub label_range : (count : ℕ) → (2 ≤ label_count count) × (label_count count ≤ 256)
label_range count = go (nat_le 2 count && nat_le count 256) refl
  where
    go : (b : Bool) → nat_le 2 count && nat_le count 256 ≡ b → (2 ≤ cond b count 2) × (cond b count 2 ≤ 256)
    go true e = let h = and_parts (nat_le 2 count) (nat_le count 256) e in (leb-true 2 count h.0, leb-true count 256 h.1)
    go false e = (omega arith, omega arith)

abbrev pub config_of : {R : Type 0} → R → ℕ → Config R
config_of kind count = record { kind = kind; labels = label_count count; range = label_range count }

-- both labels 0, idle, the given record at both ends, and nothing observed
abbrev pub new_of : {R Rec : Type 0} → R → ℕ → Shape → Shape → Rec → Model (Config R) Rec
new_of kind count f b r = record {
  config = config_of kind count;
  sender = record { label = 0; state = Idle; in_hand = r };
  receiver = record { label = 0; delivered = r };
  forward = f;
  back = b;
  observer = unobserved;
}
