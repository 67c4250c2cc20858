-- Words of 8 bits of label keep the laws of a codec. Assumes nothing.
use Rattle.std.proofs.Common.{◌≡◌, ℕ, ◌%◌, ◌^◌, ◌<◌, ◌≤◌, Bool, true, false, cond, ◌&&◌, eqb, ltb, Some, None, Option, refl, ap, ◌∙◌, ap₂, mod-eq_of_lt, arith}
use Rattle.std.proofs.lemmas.Bool.{and_from, and_parts, cond-true, eq-eqb, lt-ltb, ltb-true}
use Rattle.wire.specs.declared.word.Word.{Word}
use Rattle.wire.specs.Words.{word_of, packed, reads, acknowledges, acknowledgement}
use Rattle.wire.proofs.Roundtrip.{packed-reads}
use Rattle.recovery.specs.Codec.{CodecLaws}
use Rattle.codec.specs.declared.config.Config.{Config}
use Rattle.codec.specs.Words.{under_label, record_in, read_word, ack_in, read_ack, codec}

some_is : {T : Type 0} (b : Bool) (o : Option T) (x : T) → cond b o None ≡ Some x → (b ≡ true) × (o ≡ Some x)
some_is true o x e = (refl, e)
some_is false o x e = absurd (let z : ◌≡◌ {A = ℕ} 0 1 = cc in omega arith)

module _ {Rec : Type 0} (labels number : ℕ) (kindReads : ℕ → Option Rec) where
  -- a record that was sent under a label reads back
  word_back : (x p : ℕ) (r : Rec) → labels ≤ 256 → x < labels → number < 16 → p < 2 ^ 36 → kindReads p ≡ Some r → read_word labels number kindReads (packed (word_of x number p)) ≡ Some (x, r)
  word_back x p r few small kind short back =
      let w = word_of x number p in
      let a : x % 2 ^ 8 ≡ x = mod-eq_of_lt (omega arith) in
      let k : number % 2 ^ 4 ≡ number = mod-eq_of_lt (omega arith) in
      let q : p % 2 ^ 36 ≡ p = mod-eq_of_lt short in
      let test : ltb w.label labels && eqb w.kind number ≡ true =
      and_from (ltb w.label labels) (eqb w.kind number) (lt-ltb w.label labels (omega arith)) (eq-eqb w.kind number k) in
      ap (record_in labels number kindReads) (packed-reads w)
      ∙ cond-true (ltb w.label labels && eqb w.kind number) (under_label w.label (kindReads w.payload)) None test
      ∙ ap₂ (λ y z. under_label y (kindReads z)) a q
      ∙ ap (under_label x) back

  under_label_lem : (y x : ℕ) (o : Option Rec) (r : Rec) → under_label y o ≡ Some (x, r) → y ≡ x
  under_label_lem y x (Some s) r e =
      let pair : ◌≡◌ {A = ℕ × Rec} (y, s) (x, r) = cc in
      ap (λ p. p.0) pair
  under_label_lem y x None r e = absurd (let z : ◌≡◌ {A = ℕ} 0 1 = cc in omega arith)

  record_label : (o : Option Word) (x : ℕ) (r : Rec) → record_in labels number kindReads o ≡ Some (x, r) → x < labels
  record_label (Some w) x r e =
      let by = some_is (ltb w.label labels && eqb w.kind number) (under_label w.label (kindReads w.payload)) (x, r) e in
      let small = ltb-true w.label labels (and_parts (ltb w.label labels) (eqb w.kind number) by.0).0 in
      omega (arith, under_label_lem w.label x (kindReads w.payload) r by.1)
  record_label None x r e = absurd (let z : ◌≡◌ {A = ℕ} 0 1 = cc in omega arith)

ack_back : (labels x : ℕ) → labels ≤ 256 → x < labels → read_ack labels (packed (acknowledgement x)) ≡ Some x
ack_back labels x few small =
    let w = acknowledgement x in
    let a : x % 2 ^ 8 ≡ x = mod-eq_of_lt (omega arith) in
    ap (ack_in labels) (packed-reads w)
    ∙ cond-true (ltb w.label labels && acknowledges w) (Some w.label) None (and_from (ltb w.label labels) (acknowledges w) (lt-ltb w.label labels (omega arith)) refl)
    ∙ ap Some a

ack_label : (labels : ℕ) (o : Option Word) (x : ℕ) → ack_in labels o ≡ Some x → x < labels
ack_label labels (Some w) x e =
    let by = some_is (ltb w.label labels && acknowledges w) (Some w.label) x e in
    let same : w.label ≡ x = let k = by.1 in cc in
    omega (arith, ltb-true w.label labels (and_parts (ltb w.label labels) (acknowledges w) by.0).0)
ack_label labels None x e = absurd (let z : ◌≡◌ {A = ℕ} 0 1 = cc in omega arith)

-- of a kind, only its number, the bound on its payloads and that they read back is needed
pub word_laws : {R Rec : Type 0} (number : ℕ) (payload : R → Rec → ℕ) (kindReads : R → ℕ → Option Rec) → number < 16
    → ((k : R) (r : Rec) → payload k r < 2 ^ 36) → ((k : R) (r : Rec) → kindReads k (payload k r) ≡ Some r) → (c : Config R) → CodecLaws (codec number payload kindReads c)
word_laws number payload kindReads small short back c = record {
  words = λ x r below allowed. word_back c.labels number (kindReads c.kind) x (payload c.kind r) r c.range.1 below small (short c.kind r) (back c.kind r);
  acks = λ x below. ack_back c.labels x c.range.1 below;
  word_labels = λ w x r e. record_label c.labels number (kindReads c.kind) (reads w) x r e;
  ack_labels = λ w x e. ack_label c.labels (reads w) x e;
}
