-- Playing one item more at the end of a history. Assumes nothing.
use mathlib.Core.Path.{◌≡◌, refl, ap}
use mathlib.Core.List.{[], ◌∷◌, ◌++◌}
use Rattle.history.specs.Document000.{Execution, Item, communication, operation, History, communications}
use Rattle.history.proofs.Plays.{Status, after, Suits, set, Makes, value_after, Plays}

module _ {Val Inv Res Port : Type 0} where
  pub communications_append : (h k : History Port Val Inv Res) → communications (h ++ k) ≡ communications h ++ communications k
  unfolding communications
  communications_append [] k = refl
  communications_append ((p, communication c) ∷ h) k = ap (λ (l : Execution Port Inv Res). (p, c) ∷ l) (communications_append h k)
  communications_append ((p, operation o) ∷ h) k = communications_append h k

  module _ (same : Discrete Port) (f : Val → Inv → Val × Res) where
    unfoldable pub stand : (Port → Status Inv Res) → History Port Val Inv Res → Port → Status Inv Res
    stand st [] = st
    stand st ((p, z) ∷ h) = stand (set same st p (after z)) h

    unfoldable pub held : Val → History Port Val Inv Res → Val
    held v [] = v
    held v ((p, z) ∷ h) = held (value_after v z) h

    pub play_more : (st : Port → Status Inv Res) (v : Val) (h : History Port Val Inv Res) (p : Port) (z : Item Val Inv Res) → Plays same f st v h → Suits z (stand st h p) → Makes f (held v h) z → Plays same f st v (h ++ ((p, z) ∷ []))
    unfolding Plays stand held
    play_more st v [] p z a b c = (b, c, tt)
    play_more st v ((q, y) ∷ h) p z a b c = (a.0, a.1, play_more (set same st q (after y)) (value_after v y) h p z a.2 b c)

    pub stand_more : (st : Port → Status Inv Res) (h : History Port Val Inv Res) (p : Port) (z : Item Val Inv Res) → stand st (h ++ ((p, z) ∷ [])) ≡ set same (stand st h) p (after z)
    unfolding stand
    stand_more st [] p z = refl
    stand_more st ((q, y) ∷ h) p z = stand_more (set same st q (after y)) h p z

    pub held_more : (v : Val) (h : History Port Val Inv Res) (p : Port) (z : Item Val Inv Res) → held v (h ++ ((p, z) ∷ [])) ≡ value_after (held v h) z
    unfolding held
    held_more v [] p z = refl
    held_more v ((q, y) ∷ h) p z = held_more (value_after v y) h p z
