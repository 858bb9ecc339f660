-- Sets of changes as lists: a setting from notes, configurations whose order can be decided, and a quorum rule.
--
-- The order and the repeats of a list never matter, since every law speaks of membership. The setting stays the same while further
-- changes become known, so one setting serves a whole run.
--   setting   the setting with lists for sets of changes
use mathlib.Core.Path.{◌≡◌, refl}
use mathlib.Core.Logic.{◌⊎◌, inl, inr}
use mathlib.Core.List.{List, [], ◌∷◌}
use mathlib.Core.HLevel.{Discrete}
use Rattle.agreement.specs.Lattice.{Semilattice, AtMost, Among}
use Rattle.agreement.specs.Setting.{QuorumsMeet, Setting}
use Rattle.agreement.proofs.Order.{at-most-refl, at-most-trans, at-most-join-left, at-most-join-right, join-at-most}

-- Where equality can be decided, the order can.
pub decide-at-most : {A : Type 0} → Discrete A → (L : Semilattice A) → (a b : A) → Dec (AtMost L a b)
decide-at-most {A} d L a b = go (d (L.join a b) b)
  where
    go : Dec (L.join a b ≡ b) → Dec (AtMost L a b)
    go (yes e) = yes (record { absorbed = e })
    go (no n) = no (λ h. n h.absorbed)

module _ {C : Type 0} (L : Semilattice C) where
  -- c joined with every change of the list.
  unfoldable pub join_all : C → List C → C
  join_all c [] = c
  join_all c (u ∷ t) = L.join u (join_all c t)

  pub join-all-base : (c : C) (t : List C) → AtMost L c (join_all c t)
  unfolding join_all
  join-all-base c [] = at-most-refl
  join-all-base c (u ∷ t) = at-most-trans (join-all-base c t) (at-most-join-right u (join_all c t))

  pub join-all-change : (c : C) (t : List C) (u : C) → Among u t → AtMost L u (join_all c t)
  unfolding join_all
  join-all-change c [] u m = absurd m
  join-all-change c (x ∷ t) u (inl e) = rw e (at-most-join-left x (join_all c t))
  join-all-change c (x ∷ t) u (inr m) = at-most-trans (join-all-change c t u m) (at-most-join-right x (join_all c t))

  pub join-all-least : (c : C) (t : List C) (w : C) → AtMost L c w → ((u : C) → Among u t → AtMost L u w) → AtMost L (join_all c t) w
  unfolding join_all
  join-all-least c [] w h k = h
  join-all-least c (x ∷ t) w h k = join-at-most (k x (inl refl)) (join-all-least c t w h (λ u m. k u (inr m)))

  module _ (at-most? : (a b : C) → Dec (AtMost L a b)) where
    -- x put before the list, unless it is contained in c.
    unfoldable pub keep : {c x : C} → Dec (AtMost L x c) → List C → List C
    keep (yes h) t = t
    keep {x = x} (no h) t = x ∷ t

    -- The changes of the list that c does not contain.
    unfoldable pub trim_list : C → List C → List C
    trim_list c [] = []
    trim_list c (u ∷ t) = keep (at-most? u c) (trim_list c t)

    keep-from : {c x : C} (d : Dec (AtMost L x c)) (t r : List C) → ((u : C) → Among u r → Among u t) → (u : C) → Among u (keep d r)
        → Among u (x ∷ t)
    unfolding keep
    keep-from (yes h) t r g u m = inr (g u m)
    keep-from (no h) t r g u (inl e) = inl e
    keep-from (no h) t r g u (inr m) = inr (g u m)

    pub trim-list-from : (c : C) (t : List C) (u : C) → Among u (trim_list c t) → Among u t
    unfolding trim_list
    trim-list-from c [] u m = m
    trim-list-from c (x ∷ t) u m = keep-from (at-most? x c) t (trim_list c t) (trim-list-from c t) u m

    keep-outside : {c x : C} (d : Dec (AtMost L x c)) (r : List C) → ((u : C) → Among u r → ¬ (AtMost L u c)) → (u : C) → Among u (keep d r)
        → ¬ (AtMost L u c)
    unfolding keep
    keep-outside (yes h) r g u m = g u m
    keep-outside (no h) r g u (inl e) = rw e h
    keep-outside (no h) r g u (inr m) = g u m

    pub trim-list-outside : (c : C) (t : List C) (u : C) → Among u (trim_list c t) → ¬ (AtMost L u c)
    unfolding trim_list
    trim-list-outside c [] u m = absurd m
    trim-list-outside c (x ∷ t) u m = keep-outside (at-most? x c) (trim_list c t) (trim-list-outside c t) u m

    keep-keeps : {c x : C} (d : Dec (AtMost L x c)) (t r : List C) → ((u : C) → Among u t → AtMost L u c ⊎ Among u r) → (u : C)
        → Among u (x ∷ t) → AtMost L u c ⊎ Among u (keep d r)
    unfolding keep
    keep-keeps (yes h) t r g u (inl e) = inl (rw e h)
    keep-keeps (yes h) t r g u (inr m) = g u m
    keep-keeps (no h) t r g u (inl e) = inr (inl e)
    keep-keeps {c} {x} (no h) t r g u (inr m) = go (g u m)
      where
        go : AtMost L u c ⊎ Among u r → AtMost L u c ⊎ Among u (x ∷ r)
        go (inl i) = inl i
        go (inr i) = inr (inr i)

    pub trim-list-keeps : (c : C) (t : List C) (u : C) → Among u t → AtMost L u c ⊎ Among u (trim_list c t)
    unfolding trim_list
    trim-list-keeps c [] u m = absurd m
    trim-list-keeps c (x ∷ t) u m = keep-keeps (at-most? x c) t (trim_list c t) (trim-list-keeps c t) u m

-- What is left to say of a setting once its sets of changes are lists.
pub record Parts : Type 1 where
  pub Tablet : Type 0
  pub Box : Type 0
  pub Notes : Type 0
  pub notes : Semilattice Notes
  pub Configuration : Type 0
  pub configurations : Semilattice Configuration
  pub at-most? : (a b : Configuration) → Dec (AtMost configurations a b)
  pub Boxes : Type 0
  pub BoxIn : Box → Boxes → Type 0
  pub Quorum : Configuration → Boxes → Type 0
  pub quorums_meet : QuorumsMeet BoxIn Quorum

abbrev pub setting : Parts → Setting
setting P = record {
  Tablet = P.Tablet;
  Box = P.Box;
  Notes = P.Notes;
  notes = P.notes;
  Configuration = P.Configuration;
  configurations = P.configurations;
  Changes = List P.Configuration;
  In = Among;
  no_changes = [];
  in_no_changes = λ u m. m;
  joined = join_all P.configurations;
  joined_base = join-all-base P.configurations;
  joined_change = join-all-change P.configurations;
  joined_least = join-all-least P.configurations;
  trim = trim_list P.configurations P.at-most?;
  trim_from = trim-list-from P.configurations P.at-most?;
  trim_outside = trim-list-outside P.configurations P.at-most?;
  trim_keeps = trim-list-keeps P.configurations P.at-most?;
  Boxes = P.Boxes;
  BoxIn = P.BoxIn;
  Quorum = P.Quorum;
  quorums_meet = P.quorums_meet;
}
