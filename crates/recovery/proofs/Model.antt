-- The link over what its channels mean: labels as they are read, and only what the findings speak of. Assumes nothing.
use Rattle.std.proofs.Common.{◌≡◌, ℕ, ◌+◌, ◌%◌, ◌<◌, Bool, true, ◌≢◌, ◌⊎◌, List, [], ◌∷◌, ◌++◌, Some, None, append_assoc}
use Rattle.channel.specs.Meaning.{Meaning, Standing}
use Rattle.channel.specs.Rules.{Taken, Tick}
use Rattle.recovery.specs.Codec.{Codec}
use Rattle.recovery.specs.State.{clean_at}
use Rattle.recovery.specs.Runs.{Event, accepts, delivers, completes, round}
use Rattle.ends.specs.declared.sender.State.{State}
use Rattle.ends.specs.declared.sender.State.TheVariants.{Idle, UnderWay}
use Rattle.recovery.proofs.Channels.{PutCase}

-- The sender's label, its state and the record in hand, the receiver's label, and the two channels.
pub record View (Rec : Type 0) : Type 0 where
  pub own : ℕ
  pub state : State
  pub hand : Rec
  pub other : ℕ
  pub forward : Meaning
  pub back : Meaning

pub record Sound {Rec : Type 0} (v : View Rec) : Type 0 where
  pub forward : Standing v.forward
  pub back : Standing v.back

-- no word, or the oldest still waits
abbrev pub Silent : Meaning → Type 0
Silent m = (m.contents ≡ []) ⊎ (0 < m.wait)

module _ {Rec : Type 0} where
  abbrev pub over : View Rec → Meaning → Meaning → View Rec
  over v f b = record { own = v.own; state = v.state; hand = v.hand; other = v.other; forward = f; back = b }

  -- after an accepted offer, a delivery and a completion
  abbrev pub offered : View Rec → ℕ → Rec → View Rec
  offered v x r = record { own = x; state = UnderWay; hand = r; other = v.other; forward = v.forward; back = v.back }

  abbrev pub delivered : View Rec → ℕ → Meaning → Meaning → View Rec
  delivered v x f b = record { own = v.own; state = v.state; hand = v.hand; other = x; forward = f; back = b }

  abbrev pub rested : View Rec → Meaning → View Rec
  rested v b = record { own = v.own; state = Idle; hand = v.hand; other = v.other; forward = v.forward; back = b }

module _ {Rec : Type 0} (C : Codec Rec) where
  abbrev pub is_clean : View Rec → Bool
  is_clean v = clean_at C v.own v.state v.other v.forward v.back

  pub data Offer (v : View Rec) : List (Event Rec) → View Rec → Type 0 where
    refused : Offer v [] v
    accepted : {r : Rec} → C.allows r ≡ true → v.state ≡ Idle → Offer v (accepts r ∷ []) (offered v ((v.own + 1) % C.labels) r)

  pub data Send (v : View Rec) : View Rec → Type 0 where
    idle : v.state ≡ Idle → Send v v
    sent : {f : Meaning} → v.state ≡ UnderWay → PutCase v.forward (C.send_word v.own v.hand) f → Send v (over v f v.back)

  pub data Hear (v : View Rec) : List (Event Rec) → View Rec → Type 0 where
    silent : Silent v.forward → Hear v [] v
    spoilt : {w : ℕ} {f : Meaning} → Taken v.forward w f → C.read_word w ≡ None → Hear v [] (over v f v.back)
    repeated : {w : ℕ} {r : Rec} {f b : Meaning} → Taken v.forward w f → C.read_word w ≡ Some (v.other, r) →
        PutCase v.back (C.ack_word v.other) b → Hear v [] (over v f b)
    adopted : {w x : ℕ} {r : Rec} {f b : Meaning} → Taken v.forward w f → C.read_word w ≡ Some (x, r) → x ≢ v.other →
        PutCase v.back (C.ack_word x) b → Hear v (delivers r ∷ []) (delivered v x f b)

  pub data Settle (v : View Rec) : List (Event Rec) → View Rec → Type 0 where
    silent : Silent v.back → Settle v [] v
    discarded : {w : ℕ} {b : Meaning} → Taken v.back w b → (v.state ≡ Idle) ⊎ (C.read_ack w ≢ Some v.own) → Settle v [] (over v v.forward b)
    completed : {w : ℕ} {b : Meaning} → Taken v.back w b → C.read_ack w ≡ Some v.own → v.state ≡ UnderWay →
        Settle v (completes (is_clean (rested v b)) ∷ []) (rested v b)

  pub data Ticks (v : View Rec) : View Rec → Type 0 where
    ticked : {f b : Meaning} → Tick v.forward f → Tick v.back b → Ticks v (over v f b)

  -- Calls in any order, with rounds as such.
  pub data Run : View Rec → List (Event Rec) → View Rec → Type 0 where
    stop : {v : View Rec} → Run v [] v
    offer : {v w u : View Rec} {e es : List (Event Rec)} → Offer v e w → Sound w → Run w es u → Run v (e ++ es) u
    send : {v w u : View Rec} {es : List (Event Rec)} → Send v w → Sound w → Run w es u → Run v es u
    hear : {v w u : View Rec} {e es : List (Event Rec)} → Hear v e w → Sound w → Run w es u → Run v (e ++ es) u
    settle : {v w u : View Rec} {e es : List (Event Rec)} → Settle v e w → Sound w → Run w es u → Run v (e ++ es) u
    tick : {v w u : View Rec} {es : List (Event Rec)} → Ticks v w → Sound w → Run w es u → Run v es u
    turn : {v v₁ v₂ v₃ v₄ u : View Rec} {d e es : List (Event Rec)} → Send v v₁ → Sound v₁ → Hear v₁ d v₂ → Sound v₂ → Settle v₂ e v₃ → Sound v₃ →
        Ticks v₃ v₄ → Sound v₄ → Run v₄ es u →
        Run v ((d ++ (e ++ (round ∷ []))) ++ es) u

  -- An exchange is under way at the start of each round.
  abbrev pub Working : {v w : View Rec} {es : List (Event Rec)} → Run v es w → Type 0
  Working stop = Unit {0}
  Working (Run.offer s k r) = Working r
  Working (Run.send s k r) = Working r
  Working (Run.hear s k r) = Working r
  Working (Run.settle s k r) = Working r
  Working (Run.tick s k r) = Working r
  Working (turn {v = v} s₁ k₁ s₂ k₂ s₃ k₃ s₄ k₄ r) = (v.state ≡ UnderWay) × Working r

  -- The same as single steps, the end of a round being one.
  pub data Step (v : View Rec) : List (Event Rec) → View Rec → Type 0 where
    offer : {w : View Rec} {e : List (Event Rec)} → Offer v e w → Step v e w
    send : {w : View Rec} → Send v w → Step v [] w
    hear : {w : View Rec} {e : List (Event Rec)} → Hear v e w → Step v e w
    settle : {w : View Rec} {e : List (Event Rec)} → Settle v e w → Step v e w
    tick : {w : View Rec} → Ticks v w → Step v [] w
    mark : Step v (round ∷ []) v

  pub data Steps : View Rec → List (Event Rec) → View Rec → Type 0 where
    done : {v : View Rec} → Steps v [] v
    next : {v w u : View Rec} {e es : List (Event Rec)} → Step v e w → Sound w → Steps w es u → Steps v (e ++ es) u

  pub flat : {v u : View Rec} {es : List (Event Rec)} → Run v es u → Steps v es u
  flat stop = done
  flat (Run.offer s k r) = next (offer s) k (flat r)
  flat (Run.send s k r) = next (send s) k (flat r)
  flat (Run.hear s k r) = next (hear s) k (flat r)
  flat (Run.settle s k r) = next (settle s) k (flat r)
  flat (Run.tick s k r) = next (tick s) k (flat r)
  flat (turn s₁ k₁ s₂ k₂ s₃ k₃ s₄ k₄ r) =
      rw (append_assoc, append_assoc)
      (next (send s₁) k₁ (next (hear s₂) k₂ (next (settle s₃) k₃ (next (tick s₄) k₄ (next mark k₄ (flat r))))))
