-- The laws of readings. Assumes nothing.
use Rattle.std.specs.Prelude.{◌≡◌, ℕ, zero, suc, ◌+◌, ◌*◌, ◌/◌, ◌%◌, ◌^◌, ◌<◌, ◌≤◌, Bool, true, false, cond, ◌&&◌, Some, None, Option, ◌==◌, nat_le, refl}
use Rattle.std.proofs.Common.{sym, ap, ap₂, ◌∙◌, arith}
use Rattle.std.proofs.Math.Bool.{Bool-set}
use mathlib.Core.HLevel.{is_prop→PathP}
use Rattle.std.proofs.lemmas.Nat.{shr-shr}
use Rattle.std.proofs.lemmas.Bool.{and_parts, cond-true, eq-eqb, eqb-true, leb-true}
use Rattle.readings.specs.declared.reading.Reading.{Reading, measurable-type}
use Rattle.readings.specs.declared.reading.Side.{Side}
use Rattle.readings.specs.declared.reading.Side.TheVariants.{Left, Right}
use Rattle.readings.specs.Ranges.{in_range}
use Rattle.readings.specs.Readings.{side_bit, side_of, reading_of, reading_payload, reading_reads}
use Rattle.records.proofs.Guards.{guarded-true, guarded-some}

pub reading_ext : (a b : Reading) → a.axle ≡ b.axle → a.side ≡ b.side → a.force ≡ b.force → a.pressure ≡ b.pressure → a ≡ b
reading_ext a b p s q r = λ i. record {
  axle = p i;
  side = s i;
  force = q i;
  pressure = r i;
  measurable = is_prop→PathP (λ i. measurable-type (p i) (s i) (q i) (r i)) (λ i. Bool-set (in_range (p i) (q i) (r i)) true) a.measurable b.measurable i;
}

bounds : (a f q : ℕ) → in_range a f q ≡ true → (1 ≤ a) × (a ≤ 12) × (f ≤ 6000) × (q ≤ 1500)
bounds a f q e =
    let p = and_parts (nat_le 1 a && nat_le a 12) (nat_le f 6000 && nat_le q 1500) e in
    let s = and_parts (nat_le 1 a) (nat_le a 12) p.0 in
    let t = and_parts (nat_le f 6000) (nat_le q 1500) p.1 in
    (leb-true 1 a s.0, leb-true a 12 s.1, leb-true f 6000 t.0, leb-true q 1500 t.1)

side_small : (s : Side) → side_bit s < 2
side_small Left = omega arith
side_small Right = omega arith

side_back : (s : Side) → side_of (side_bit s) ≡ s
side_back Left = refl
side_back Right = refl

side_bit_lem : (n : ℕ) → n < 2 → side_bit (side_of n) ≡ n
side_bit_lem zero h = refl
side_bit_lem (suc zero) h = refl
side_bit_lem (suc (suc n)) h = absurd (omega arith)

pub reading_is : (r : Reading) (a : ℕ) (s : Side) (f q : ℕ) → a ≡ r.axle → s ≡ r.side → f ≡ r.force → q ≡ r.pressure → reading_of a s f q ≡ Some r
reading_is r a s f q ea es ef eq =
    let e : in_range a f q ≡ true = ap₂ (λ x y. in_range x y q) ea ef ∙ ap (in_range r.axle r.force) eq ∙ r.measurable in
    guarded-true (in_range a f q) (λ e. record { axle = a; side = s; force = f; pressure = q; measurable = e }) e
    ∙ ap Some (reading_ext (record { axle = a; side = s; force = f; pressure = q; measurable = e }) r ea es ef eq)

-- a payload whose spare bits are 0 reads as the reading of its fields
pub fields_read : (p : ℕ) (r : Reading) → p % 2 ^ 3 ≡ 0 → p / 2 ^ 32 ≡ r.axle → side_of (p / 2 ^ 31 % 2) ≡ r.side → p / 2 ^ 15 % 2 ^ 16 ≡ r.force → p / 2 ^ 3 % 2 ^ 12 ≡ r.pressure → reading_reads p ≡ Some r
fields_read p r spare ea es ef eq =
    cond-true (p % 2 ^ 3 == 0) _ _ (eq-eqb (p % 2 ^ 3) 0 spare) ∙ reading_is r (p / 2 ^ 32) (side_of (p / 2 ^ 31 % 2)) (p / 2 ^ 15 % 2 ^ 16) (p / 2 ^ 3 % 2 ^ 12) ea es ef eq

pub small : (r : Reading) → reading_payload r < 2 ^ 36
small r =
    let b = bounds r.axle r.force r.pressure r.measurable in
    let s = side_small r.side in
    omega arith

pub back : (r : Reading) → reading_reads (reading_payload r) ≡ Some r
back r =
    let b = bounds r.axle r.force r.pressure r.measurable in
    let s = side_small r.side in
    let w : ℕ = side_bit r.side in
    let p : ℕ = reading_payload r in
    let h : p / 2 ^ 31 ≡ r.axle * 2 + w = omega arith in
    let f : p / 2 ^ 15 ≡ (r.axle * 2 + w) * 2 ^ 16 + r.force = omega arith in
    let q : p / 2 ^ 3 ≡ ((r.axle * 2 + w) * 2 ^ 16 + r.force) * 2 ^ 12 + r.pressure = omega arith in
    fields_read p r (omega arith) (omega arith)
    (ap (λ n. side_of (n % 2)) h ∙ ap side_of (omega arith) ∙ side_back r.side)
    (ap (λ n. n % 2 ^ 16) f ∙ omega arith)
    (ap (λ n. n % 2 ^ 12) q ∙ omega arith)

cond-some : {T : Type 0} (b : Bool) (o : Option T) (x : T) → cond b o None ≡ Some x → (b ≡ true) × (o ≡ Some x)
cond-some true o x e = (refl, e)
cond-some false o x e = absurd (let z : ◌≡◌ {A = ℕ} 0 1 = cc in omega arith)

pub once : (p : ℕ) (r : Reading) → reading_reads p ≡ Some r → reading_payload r ≡ p
once p r e =
    let w : ℕ = p / 2 ^ 31 % 2 in
    let f : ℕ = p / 2 ^ 15 % 2 ^ 16 in
    let q : ℕ = p / 2 ^ 3 % 2 ^ 12 in
    let both = cond-some (p % 2 ^ 3 == 0) (reading_of (p / 2 ^ 32) (side_of w) f q) r e in
    let spare : p % 2 ^ 3 ≡ 0 = eqb-true (p % 2 ^ 3) 0 both.0 in
    let m = guarded-some (in_range (p / 2 ^ 32) f q) (λ e. record { axle = p / 2 ^ 32; side = side_of w; force = f; pressure = q; measurable = e }) r both.1 in
    let sum : reading_payload r ≡ p / 2 ^ 32 * 2 ^ 32 + w * 2 ^ 31 + f * 2 ^ 15 + q * 2 ^ 3 =
    sym (ap reading_payload m.1) ∙ ap (λ n. p / 2 ^ 32 * 2 ^ 32 + n * 2 ^ 31 + f * 2 ^ 15 + q * 2 ^ 3) (side_bit_lem w (omega arith)) in
    let a : p / 2 ^ 3 / 2 ^ 12 ≡ p / 2 ^ 15 = shr-shr p 3 12 in
    let b : p / 2 ^ 15 / 2 ^ 16 ≡ p / 2 ^ 31 = shr-shr p 15 16 in
    let c : p / 2 ^ 31 / 2 ^ 1 ≡ p / 2 ^ 32 = shr-shr p 31 1 in
    omega arith

pub short : (p : ℕ) (r : Reading) → reading_reads p ≡ Some r → p < 2 ^ 36
short p r e = omega (arith, once p r e, small r)
