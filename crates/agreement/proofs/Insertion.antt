-- A new commit goes into the chain: the heart of the agreement argument (001, Lemmas 5.4 and 5.5).
--
-- Walk up from the parent of the new commit s, which s queries. If y stands next, both asked a quorum of one configuration, so s ⊑* y or
-- y ⊑* s. In the first case s goes in below y, in the second the walk goes on above y.
--   insert   a commit whose parent is in the chain, and that is comparable in ⊑* with each commit that shares a queried configuration, goes in
use mathlib.Core.Path.{◌≡◌, refl, sym, subst}
use mathlib.Core.Logic.{◌⊎◌, inl, inr}
use mathlib.Core.List.{List, ◌∷◌}
use Rattle.agreement.specs.Lattice.{Among}
use Rattle.agreement.specs.Setting.{Setting, Contents, Contained, decide, Below, Queried}
use Rattle.agreement.proofs.Order.{at-most-of-eq, at-most-trans, at-most-antisymm, contained-trans}
use Rattle.agreement.proofs.Below.{decide-monotone, queried-decided, queried-own, queried-of-below}
use Rattle.agreement.proofs.Chain.{StartsWithin, DecidesWithin, Parent, Over, Chain, root, link, Top, under_first, chain-top}

module _ {𝓢 : Setting} where
  -- A configuration that both query.
  pub record Shared (s y : Contents 𝓢) : Type 0 where
    pub at : 𝓢.Configuration
    pub left : Queried s at
    pub right : Queried y at

  -- s is comparable in ⊑* with every y that has evidence and shares a queried configuration with it.
  abbrev pub Meets : (Contents 𝓢 → Type 0) → Contents 𝓢 → Type 0
  Meets Evidence s = (y : Contents 𝓢) → Evidence y → Shared s y → Below s y ⊎ Below y s

  -- l' is l with s put in.
  pub record Inserted (s : Contents 𝓢) (l l' : List (Contents 𝓢)) : Type 0 where
    pub new : Among s l'
    pub old : (z : Contents 𝓢) → Among z l → Among z l'
    pub only : (z : Contents 𝓢) → Among z l' → (z ≡ s) ⊎ Among z l

  -- s stands within l, between an element higher and an element right under it, which it queries.
  record Placed (f : Contents 𝓢) (Evidence : Contents 𝓢 → Type 0) (s : Contents 𝓢) (l : List (Contents 𝓢)) : Type 0 where
    out : List (Contents 𝓢)
    chain : Chain f Evidence out
    inserted : Inserted s l out
    higher : Contents 𝓢
    higher_among : Among higher l
    higher_over : Contained (decide s) (decide higher)
    lower : Contents 𝓢
    lower_among : Among lower l
    lower_queried : Queried s (decide lower).configuration
    split : (z : Contents 𝓢) → Among z l → DecidesWithin s z ⊎ DecidesWithin z lower

  -- s stands over a list of which its parent y is the top.
  over-parent : {s y : Contents 𝓢} {l : List (Contents 𝓢)} → Parent s y → ((x : Contents 𝓢) → Among x l → Contained (decide x) (decide y))
      → Over s (y ∷ l)
  over-parent {s} {y} {l} p up = record {
    above = λ x m. contained-trans (under x m) y-under-s;
    queries = queries';
    parent = (y, inl refl, p);
  }
    where
      y-under-s : Contained (decide y) (decide s)
      y-under-s = record {
        notes = p.notes;
        configuration = at-most-trans (at-most-of-eq (sym p.configuration)) (𝓢.joined_base s.committed.configuration s.changes);
      }

      under : (x : Contents 𝓢) → Among x (y ∷ l) → Contained (decide x) (decide y)
      under = under_first y l up

      queries' : (x : Contents 𝓢) → Among x (y ∷ l) → StartsWithin s x → Queried s (decide x).configuration
      queries' x m h =
          let e : s.committed.configuration ≡ (decide x).configuration = at-most-antisymm h (at-most-trans (under x m).configuration (at-most-of-eq (sym p.configuration))) in
          subst (λ (w : 𝓢.Configuration). Queried s w) e (queried-own s)

  -- What stands over a list queries the list's top.
  over-queries-top : {y : Contents 𝓢} {l : List (Contents 𝓢)} → Over y l → (t : Top l) → Queried y (decide t.top).configuration
  over-queries-top o t =
      o.queries t.top t.among (at-most-trans (at-most-of-eq o.parent.2.configuration) (t.over o.parent.0 o.parent.1).configuration)

  -- y stays over the list when s, which is ⊑* y, goes on top of the list.
  over-cons : {y s : Contents 𝓢} {l : List (Contents 𝓢)} → Below s y → Over y l → Over y (s ∷ l)
  over-cons {y} {s} {l} b o = record { above = above'; queries = queries'; parent = (o.parent.0, inr o.parent.1, o.parent.2) }
    where
      above' : (x : Contents 𝓢) → Among x (s ∷ l) → Contained (decide x) (decide y)
      above' x (inl e) = rw e (decide-monotone b)
      above' x (inr m) = o.above x m

      queries' : (x : Contents 𝓢) → Among x (s ∷ l) → StartsWithin y x → Queried y (decide x).configuration
      queries' x (inl e) h = rw e (queried-of-below b (rw e at h))
      queries' x (inr m) h = o.queries x m h

  -- The chain with s in it.
  pub record Extended (f : Contents 𝓢) (Evidence : Contents 𝓢 → Type 0) (s : Contents 𝓢) (l : List (Contents 𝓢)) : Type 0 where
    pub out : List (Contents 𝓢)
    pub chain : Chain f Evidence out
    pub inserted : Inserted s l out

  module _ {f : Contents 𝓢} {Evidence : Contents 𝓢 → Type 0} {s : Contents 𝓢} where
    -- y stays over the list when s is placed within it.
    over-placed : {y : Contents 𝓢} {l : List (Contents 𝓢)} → Meets Evidence s → Evidence y → Over y l → (w : Placed f Evidence s l)
        → Over y w.out
    over-placed {y} {l} meets ey o w = record {
      above = λ x m. above' x (w.inserted.only x m);
      queries = λ x m. queries' x (w.inserted.only x m);
      parent = (parent', w.inserted.old parent' o.parent.1, o.parent.2);
    }
      where
        parent' : Contents 𝓢
        parent' = o.parent.0

        s-under-y : Contained (decide s) (decide y)
        s-under-y = contained-trans w.higher_over (o.above w.higher w.higher_among)

        above' : (x : Contents 𝓢) → (x ≡ s) ⊎ Among x l → Contained (decide x) (decide y)
        above' x (inl e) = rw e s-under-y
        above' x (inr m) = o.above x m

        -- y ⊑* s makes the two decide the same configuration
        compared : StartsWithin y s → Below s y ⊎ Below y s → Queried y (decide s).configuration
        compared h (inl b) = queried-of-below b h
        compared h (inr b) = subst (λ (v : 𝓢.Configuration). Queried y v) (at-most-antisymm (decide-monotone b).configuration s-under-y.configuration) (queried-decided y)

        -- y's parent is over s: then y's own configuration is the one that s decides. Or it is at most lower: then s and y both query lower
        by-parent : StartsWithin y s → DecidesWithin s parent' ⊎ DecidesWithin parent' w.lower → Queried y (decide s).configuration
        by-parent h (inl k) = subst (λ (v : 𝓢.Configuration). Queried y v) (at-most-antisymm h (at-most-trans k (at-most-of-eq (sym o.parent.2.configuration)))) (queried-own y)
        by-parent h (inr k) =
            let q : Queried y (decide w.lower).configuration = o.queries w.lower w.lower_among (at-most-trans (at-most-of-eq o.parent.2.configuration) k) in
            compared h (meets y ey (record { at = (decide w.lower).configuration; left = w.lower_queried; right = q }))

        queries' : (x : Contents 𝓢) → (x ≡ s) ⊎ Among x l → StartsWithin y x → Queried y (decide x).configuration
        queries' x (inl e) h = rw e (by-parent (rw e at h) (w.split parent' o.parent.1))
        queries' x (inr m) h = o.queries x m h

    -- s stood over l, and turns out to be ⊑* the next element y: it goes in right below y.
    place-below : {y : Contents 𝓢} {l : List (Contents 𝓢)} → Evidence s → Evidence y → Over s l → Over y l → Chain f Evidence l → Below s y
        → Placed f Evidence s (y ∷ l)
    place-below {y} {l} es ey os oy c b = record {
      out = y ∷ (s ∷ l);
      chain = link ey (over-cons b oy) (link es os c);
      inserted = record { new = inr (inl refl); old = old'; only = only' };
      higher = y;
      higher_among = inl refl;
      higher_over = decide-monotone b;
      lower = t.top;
      lower_among = inr t.among;
      lower_queried = over-queries-top os t;
      split = split';
    }
      where
        t : Top l
        t = chain-top c

        old' : (z : Contents 𝓢) → Among z (y ∷ l) → Among z (y ∷ (s ∷ l))
        old' z (inl e) = inl e
        old' z (inr m) = inr (inr m)

        only' : (z : Contents 𝓢) → Among z (y ∷ (s ∷ l)) → (z ≡ s) ⊎ Among z (y ∷ l)
        only' z (inl e) = inr (inl e)
        only' z (inr (inl e)) = inl e
        only' z (inr (inr m)) = inr (inr m)

        split' : (z : Contents 𝓢) → Among z (y ∷ l) → DecidesWithin s z ⊎ DecidesWithin z t.top
        split' z (inl e) = inl (rw e (decide-monotone b).configuration)
        split' z (inr m) = inr (t.over z m).configuration

    -- s was placed within l: it stays where it is when y stands over l.
    place-further : {y : Contents 𝓢} {l : List (Contents 𝓢)} → Meets Evidence s → Evidence y → Over y l → Placed f Evidence s l
        → Placed f Evidence s (y ∷ l)
    place-further {y} {l} meets ey oy w = record {
      out = y ∷ w.out;
      chain = link ey (over-placed meets ey oy w) w.chain;
      inserted = record { new = inr w.inserted.new; old = old'; only = only' };
      higher = w.higher;
      higher_among = inr w.higher_among;
      higher_over = w.higher_over;
      lower = w.lower;
      lower_among = inr w.lower_among;
      lower_queried = w.lower_queried;
      split = split';
    }
      where
        old' : (z : Contents 𝓢) → Among z (y ∷ l) → Among z (y ∷ w.out)
        old' z (inl e) = inl e
        old' z (inr m) = inr (w.inserted.old z m)

        lift : (z : Contents 𝓢) → (z ≡ s) ⊎ Among z l → (z ≡ s) ⊎ Among z (y ∷ l)
        lift z (inl e) = inl e
        lift z (inr m) = inr (inr m)

        only' : (z : Contents 𝓢) → Among z (y ∷ w.out) → (z ≡ s) ⊎ Among z (y ∷ l)
        only' z (inl e) = inr (inl e)
        only' z (inr m) = lift z (w.inserted.only z m)

        split' : (z : Contents 𝓢) → Among z (y ∷ l) → DecidesWithin s z ⊎ DecidesWithin z w.lower
        split' z (inl e) = inl (at-most-trans w.higher_over.configuration (rw e (oy.above w.higher w.higher_among).configuration))
        split' z (inr m) = w.split z m

    -- One step of the walk: s stands over l or within l, and y stands over l.
    walk_step : {y : Contents 𝓢} {l : List (Contents 𝓢)} → Meets Evidence s → Evidence s → Evidence y → Over y l → Chain f Evidence l
        → Over s l ⊎ Placed f Evidence s l → Over s (y ∷ l) ⊎ Placed f Evidence s (y ∷ l)
    walk_step {y} {l} meets es ey oy c (inl os) = compared (meets y ey (record { at = (decide t.top).configuration; left = over-queries-top os t; right = over-queries-top oy t }))
      where
        t : Top l
        t = chain-top c

        compared : Below s y ⊎ Below y s → Over s (y ∷ l) ⊎ Placed f Evidence s (y ∷ l)
        compared (inl b) = inr (place-below es ey os oy c b)
        compared (inr b) = inl (over-cons b os)
    walk_step meets es ey oy c (inr w) = inr (place-further meets ey oy w)

    walk : {l : List (Contents 𝓢)} → Meets Evidence s → Evidence s → Chain f Evidence l → (z : Contents 𝓢) → Among z l → Parent s z
        → Over s l ⊎ Placed f Evidence s l
    walk meets es root z (inl e) p = inl (over-parent (rw e at p) (λ x m. absurd m))
    walk meets es root z (inr m) p = absurd m
    walk meets es (link ey oy c) z (inl e) p = inl (over-parent (rw e at p) oy.above)
    walk meets es (link ey oy c) z (inr m) p = walk_step meets es ey oy c (walk meets es c z m p)

    pub insert : {l : List (Contents 𝓢)} → Meets Evidence s → Evidence s → Chain f Evidence l → (z : Contents 𝓢) → Among z l → Parent s z
        → Extended f Evidence s l
    insert {l} meets es c z m p = finish (walk meets es c z m p)
      where
        finish : Over s l ⊎ Placed f Evidence s l → Extended f Evidence s l
        finish (inl o) = record {
          out = s ∷ l;
          chain = link es o c;
          inserted = record { new = inl refl; old = λ x n. inr n; only = λ x n. n };
        }
        finish (inr w) = record { out = w.out; chain = w.chain; inserted = w.inserted }
