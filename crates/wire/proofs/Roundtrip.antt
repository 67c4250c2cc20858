-- What is packed reads back, and what reads has one packing. Assumes nothing.
use Rattle.std.proofs.Common.{◌≡◌, ℕ, ◌+◌, ◌*◌, ◌/◌, ◌%◌, ◌^◌, ◌<◌, true, Some, sym, ap, ◌∙◌, ap₂, mod-eq_of_lt, arith, shr-shr, eq-eqb, eqb-true}
use mathlib.Core.HLevel.{is_prop→PathP, ×₃_prop}
use native.Mathlib.Bridge.{le_prop}
use lib.Pow.{split}
use Rattle.std.proofs.lemmas.Nat.{div-mul-add, mod-mul-add}
use Rattle.wire.specs.declared.word.Word.{Word, fits-type}
use Rattle.wire.specs.Formats.{Format, narrow, check, checked, whole}
use Rattle.wire.specs.Words.{upper, packed, carried, given, reads}

pub word_ext : (a b : Word) → a.label ≡ b.label → a.kind ≡ b.kind → a.payload ≡ b.payload → a ≡ b
word_ext a b p q r = λ i. record {
  label = p i;
  kind = q i;
  payload = r i;
  fits = is_prop→PathP (λ i. fits-type (p i) (q i) (r i)) (λ i. ×₃_prop le_prop le_prop le_prop) a.fits b.fits i;
}

-- at any format whose check field has room for its modulus
module _ (f : Format) (some : 0 < f.modulus) (room : f.modulus < 2 ^ f.check_bits) where
  check-small : (v : ℕ) → check f v < 2 ^ f.check_bits
  check-small v = omega arith

  pub checked-upper : (v : ℕ) → checked f v / 2 ^ f.check_bits ≡ v
  checked-upper v = div-mul-add v (2 ^ f.check_bits) (check f v) (check-small v)

  pub checked-whole : (v : ℕ) → whole f (checked f v) ≡ true
  checked-whole v =
      let w : ℕ = checked f v in
      eq-eqb (w % 2 ^ f.check_bits) (check f (w / 2 ^ f.check_bits)) (mod-mul-add v (2 ^ f.check_bits) (check f v) (check-small v) ∙ ap (check f) (sym (checked-upper v)))

pub whole-checked : (f : Format) (w : ℕ) → whole f w ≡ true → checked f (w / 2 ^ f.check_bits) ≡ w
whole-checked f w e =
    let v : ℕ = w / 2 ^ f.check_bits in
    ap (λ n. v * 2 ^ f.check_bits + n) (sym (eqb-true (w % 2 ^ f.check_bits) (check f v) e)) ∙ split w f.check_bits

pub packed-reads : (w : Word) → reads (packed w) ≡ Some w
packed-reads w =
    let v : ℕ = upper w in
    let bits : ℕ = packed w in
    let p : bits / 2 ^ 16 ≡ v = checked-upper narrow (omega arith) (omega arith) v in
    let d : bits / 2 ^ 56 ≡ v / 2 ^ 40 = sym (shr-shr bits 16 40) ∙ ap (λ n. n / 2 ^ 40) p in
    let e : bits / 2 ^ 52 ≡ v / 2 ^ 36 = sym (shr-shr bits 16 36) ∙ ap (λ n. n / 2 ^ 36) p in
    let l : v / 2 ^ 40 ≡ w.label = omega arith in
    let k : v / 2 ^ 36 ≡ w.label * 2 ^ 4 + w.kind = omega arith in
    ap₂ given (checked-whole narrow (omega arith) (omega arith) v)
    (word_ext (carried bits) w
    (ap (λ n. n % 2 ^ 8) (d ∙ l) ∙ mod-eq_of_lt w.fits.0)
    (ap (λ n. n % 2 ^ 4) (e ∙ k) ∙ omega arith)
    (ap (λ n. n % 2 ^ 36) p ∙ omega arith))

pub reads-once : (bits : ℕ) → bits < 2 ^ 64 → whole narrow bits ≡ true → packed (carried bits) ≡ bits
reads-once bits small e =
    let v : ℕ = bits / 2 ^ 16 in
    let u : ℕ = v / 2 ^ 36 in
    let k : bits / 2 ^ 52 ≡ u = sym (shr-shr bits 16 36) in
    let l : bits / 2 ^ 56 ≡ u / 2 ^ 4 = sym (shr-shr bits 52 4) ∙ ap (λ n. n / 2 ^ 4) k in
    let fields : u / 2 ^ 4 % 2 ^ 8 * 2 ^ 40 + u % 2 ^ 4 * 2 ^ 36 + v % 2 ^ 36 ≡ v = omega arith in
    ap (checked narrow) (ap₂ (λ x y. x % 2 ^ 8 * 2 ^ 40 + y % 2 ^ 4 * 2 ^ 36 + v % 2 ^ 36) l k ∙ fields) ∙ whole-checked narrow bits e
