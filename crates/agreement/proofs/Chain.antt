-- The chain of commits: a list, last one first, from the fresh contents up. It takes the place of the graph G of 001 (before Lemma 5.3).
--   Over         what y must be to stand over a list: its book contains every book there, it queries what it must, and its parent is there
--   Chain        each element stands over the rest, and has evidence that it was committed
--   chain-total  any two books of the chain are comparable (what Lemma 5.5 is for)
use mathlib.Core.Path.{◌≡◌, refl, sym, ◌∙◌}
use mathlib.Core.Logic.{◌⊎◌, inl, inr}
use mathlib.Core.List.{List, [], ◌∷◌}
use Rattle.agreement.specs.Lattice.{AtMost, Among}
use Rattle.agreement.specs.Setting.{Setting, Contents, Contained, decide, Queried}
use Rattle.agreement.proofs.Order.{contained-refl, contained-trans}

module _ {𝓢 : Setting} where
  decide-of-eq : {x y : Contents 𝓢} → x ≡ y → Contained (decide x) (decide y)
  decide-of-eq e = rw e contained-refl

  -- y's own configuration is contained in the one that x decides.
  abbrev pub StartsWithin : Contents 𝓢 → Contents 𝓢 → Type 0
  StartsWithin y x = AtMost 𝓢.configurations y.committed.configuration (decide x).configuration

  -- The configuration that x decides is contained in the one that y decides.
  abbrev pub DecidesWithin : Contents 𝓢 → Contents 𝓢 → Type 0
  DecidesWithin x y = AtMost 𝓢.configurations (decide x).configuration (decide y).configuration

  -- The book that s had committed is the one that z decides (001, Lemma 5.3: v(s)); of its notes s has at least as many.
  pub record Parent (s z : Contents 𝓢) : Type 0 where
    pub configuration : s.committed.configuration ≡ (decide z).configuration
    pub notes : AtMost 𝓢.notes z.candidates s.candidates

  -- y may stand over the list l.
  pub record Over (y : Contents 𝓢) (l : List (Contents 𝓢)) : Type 0 where
    pub above : (x : Contents 𝓢) → Among x l → Contained (decide x) (decide y)
    pub queries : (x : Contents 𝓢) → Among x l → StartsWithin y x → Queried y (decide x).configuration
    pub parent : (z : Contents 𝓢) × Among z l × Parent y z

  -- The chain from the fresh contents f; each further element has evidence.
  pub data Chain (f : Contents 𝓢) (Evidence : Contents 𝓢 → Type 0) : List (Contents 𝓢) → Type 0 where
    root : Chain f Evidence (f ∷ [])
    link : {y : Contents 𝓢} {l : List (Contents 𝓢)} → Evidence y → Over y l → Chain f Evidence l → Chain f Evidence (y ∷ l)

  pub chain-map : {f : Contents 𝓢} {Evidence Evidence' : Contents 𝓢 → Type 0} {l : List (Contents 𝓢)}
      → ((x : Contents 𝓢) → Evidence x → Evidence' x) → Chain f Evidence l → Chain f Evidence' l
  chain-map g root = root
  chain-map g (link {y = y} e o c) = link (g y e) o (chain-map g c)

  -- x comes before y: y stands over a list with x in it.
  pub record Before (x y : Contents 𝓢) : Type 0 where
    pub under : Contained (decide x) (decide y)
    pub queries : StartsWithin y x → Queried y (decide x).configuration

  -- An element whose book contains all books of the list.
  pub record Top (l : List (Contents 𝓢)) : Type 0 where
    pub top : Contents 𝓢
    pub among : Among top l
    pub over : (z : Contents 𝓢) → Among z l → Contained (decide z) (decide top)

  -- A list whose first book contains all further ones lies under its first.
  pub under_first : (y : Contents 𝓢) (l : List (Contents 𝓢)) → ((x : Contents 𝓢) → Among x l → Contained (decide x) (decide y))
      → (z : Contents 𝓢) → Among z (y ∷ l) → Contained (decide z) (decide y)
  under_first y l above z (inl e) = decide-of-eq e
  under_first y l above z (inr m) = above z m

  module _ {f : Contents 𝓢} {Evidence : Contents 𝓢 → Type 0} where
    -- Of two elements x comes before y, or y's book is contained in x's.
    pub chain-order : {l : List (Contents 𝓢)} → Chain f Evidence l → (x y : Contents 𝓢) → Among x l → Among y l
        → Before x y ⊎ Contained (decide y) (decide x)
    chain-order root x y (inl i) (inl j) = inr (decide-of-eq (j ∙ sym i))
    chain-order root x y (inl i) (inr j) = absurd j
    chain-order root x y (inr i) j = absurd i
    chain-order (link e o c) x y (inl i) (inl j) = inr (decide-of-eq (j ∙ sym i))
    chain-order (link e o c) x y (inl i) (inr j) = inr (contained-trans (o.above y j) (decide-of-eq (sym i)))
    chain-order (link e o c) x y (inr i) (inl j) = inl (rw j (record { under = o.above x i; queries = o.queries x i }))
    chain-order (link e o c) x y (inr i) (inr j) = chain-order c x y i j

    pub chain-total : {l : List (Contents 𝓢)} → Chain f Evidence l → (x y : Contents 𝓢) → Among x l → Among y l
        → Contained (decide x) (decide y) ⊎ Contained (decide y) (decide x)
    chain-total c x y i j = go (chain-order c x y i j)
      where
        go : Before x y ⊎ Contained (decide y) (decide x) → Contained (decide x) (decide y) ⊎ Contained (decide y) (decide x)
        go (inl b) = inl b.under
        go (inr h) = inr h

    -- The last element is the top.
    pub chain-top : {l : List (Contents 𝓢)} → Chain f Evidence l → Top l
    chain-top root = record { top = f; among = inl refl; over = under_first f [] (λ x m. absurd m) }
    chain-top (link {y = y} {l = l} e o c) = record { top = y; among = inl refl; over = under_first y l o.above }

    -- The fresh contents are in the chain, and below all of it.
    chain-fresh : {l : List (Contents 𝓢)} → Chain f Evidence l → Among f l
    chain-fresh root = inl refl
    chain-fresh (link e o c) = inr (chain-fresh c)

    pub chain-bottom : {l : List (Contents 𝓢)} → Chain f Evidence l → (z : Contents 𝓢) → Among z l → Contained (decide f) (decide z)
    chain-bottom root z (inl i) = decide-of-eq (sym i)
    chain-bottom root z (inr i) = absurd i
    chain-bottom (link e o c) z (inl i) = contained-trans (o.above f (chain-fresh c)) (decide-of-eq (sym i))
    chain-bottom (link e o c) z (inr i) = chain-bottom c z i
