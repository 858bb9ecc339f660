-- What merging does to the order and to committed books.
--   merged-left, merged-right   the result of a merge is above both sides (Lemma 5.1)
--   asked-own                   what an ask brought is in what the tablet decides
--   Held                        the committed book is the book of an element of the chain, and its notes are among the candidates
--   merged-held                 a merge of two held contents is held
use mathlib.Core.Path.{◌≡◌, sym, ◌∙◌, ap, subst}
use mathlib.Core.Logic.{◌⊎◌, inl, inr}
use mathlib.Core.List.{List}
use Rattle.agreement.specs.Lattice.{AtMost, Among}
use Rattle.agreement.specs.Setting.{Setting, Book, Contents, Contained, decide, Below}
use Rattle.agreement.specs.State.{told}
use Rattle.agreement.specs.Steps.{Merged, Asked}
use Rattle.agreement.proofs.Order.{at-most-refl, at-most-of-eq, at-most-trans, at-most-join-left, at-most-join-right, join-at-most}
use Rattle.agreement.proofs.Below.{change-decided}
use Rattle.agreement.proofs.Chain.{Parent, Chain, chain-total}

module _ {𝓢 : Setting} where
  -- ---- The order
  -- The two sides of a merge can be exchanged.
  merged-swap : {x y z : Contents 𝓢} → Merged x y z → Merged y x z
  merged-swap {x} {y} {z} m = record {
    notes = m.notes ∙ 𝓢.notes.commutative x.committed.notes y.committed.notes;
    configuration = m.configuration ∙ 𝓢.configurations.commutative x.committed.configuration y.committed.configuration;
    candidates = m.candidates ∙ 𝓢.notes.commutative x.candidates y.candidates;
    from = λ u i. go u (m.from u i);
    left = m.right;
    right = m.left;
  }
    where
      go : (u : 𝓢.Configuration) → 𝓢.In u x.changes ⊎ 𝓢.In u y.changes → 𝓢.In u y.changes ⊎ 𝓢.In u x.changes
      go u (inl i) = inr i
      go u (inr i) = inl i

  pub merged-left : {x y z : Contents 𝓢} → Merged x y z → Below x z
  merged-left {x} {y} m = record {
    configuration = at-most-trans (at-most-join-left x.committed.configuration y.committed.configuration) (at-most-of-eq (sym m.configuration));
    candidates = at-most-trans (at-most-join-left x.candidates y.candidates) (at-most-of-eq (sym m.candidates));
    changes = m.left;
  }

  pub merged-right : {x y z : Contents 𝓢} → Merged x y z → Below y z
  merged-right m = merged-left (merged-swap m)

  asked-below : {x : Contents 𝓢} {b : Book 𝓢} {z : Contents 𝓢} → Asked x b z → Below x z
  asked-below {x} {b} {z} m = record {
    configuration = at-most-of-eq (ap (λ (v : Book 𝓢). v.configuration) (sym m.committed));
    candidates = at-most-trans (at-most-join-left x.candidates b.notes) (at-most-of-eq (sym m.candidates));
    changes = m.left;
  }

  pub asked-own : {x : Contents 𝓢} {b : Book 𝓢} {z : Contents 𝓢} → Asked x b z → Contained b (decide z)
  asked-own {x} {b} {z} m = record {
    notes = at-most-trans (at-most-join-right x.candidates b.notes) (at-most-of-eq (sym m.candidates));
    configuration = change-decided z b.configuration m.right;
  }

  -- ---- Books of the chain
  -- b is the book of an element of l.
  pub record OnChain (l : List (Contents 𝓢)) (b : Book 𝓢) : Type 0 where
    pub at : Contents 𝓢
    pub among : Among at l
    pub book : b ≡ decide at

  pub record Held (l : List (Contents 𝓢)) (x : Contents 𝓢) : Type 0 where
    pub on : OnChain l x.committed
    pub low : AtMost 𝓢.notes x.committed.notes x.candidates

  -- The chain may grow.
  pub on-chain-more : {l l' : List (Contents 𝓢)} {b : Book 𝓢} → ((z : Contents 𝓢) → Among z l → Among z l') → OnChain l b → OnChain l' b
  on-chain-more g h = record { at = h.at; among = g h.at h.among; book = h.book }

  pub held_more : {l l' : List (Contents 𝓢)} {x : Contents 𝓢} → ((z : Contents 𝓢) → Among z l → Among z l') → Held l x → Held l' x
  held_more g h = record { on = on-chain-more g h.on; low = h.low }

  -- Any two books of the chain are comparable.
  pub on-chain-total : {f : Contents 𝓢} {Evidence : Contents 𝓢 → Type 0} {l : List (Contents 𝓢)} → Chain f Evidence l → (a b : Book 𝓢)
      → OnChain l a → OnChain l b → Contained a b ⊎ Contained b a
  on-chain-total c a b p q = rw (p.book, q.book) (chain-total c p.at q.at p.among q.among)

  -- Held contents have a parent in the chain.
  pub held-parent : {l : List (Contents 𝓢)} {x : Contents 𝓢} → (h : Held l x) → Parent x h.on.at
  held-parent h = record {
    configuration = ap (λ (b : Book 𝓢). b.configuration) h.on.book;
    notes = at-most-trans (at-most-of-eq (ap (λ (b : Book 𝓢). b.notes) (sym h.on.book))) h.low;
  }

  pub asked-held : {l : List (Contents 𝓢)} {x : Contents 𝓢} {b : Book 𝓢} {z : Contents 𝓢} → Asked x b z → Held l x → Held l z
  asked-held {l} {x} {b} {z} m h = record {
    on = subst (λ (v : Book 𝓢). OnChain l v) (sym m.committed) h.on;
    low = at-most-trans (at-most-of-eq (ap (λ (v : Book 𝓢). v.notes) m.committed)) (at-most-trans h.low (asked-below m).candidates);
  }

  pub told-held : {l : List (Contents 𝓢)} {b : Book 𝓢} → OnChain l b → Held l (told b)
  told-held h = record { on = h; low = at-most-refl }

  -- Of two comparable committed books a merge keeps the larger.
  merged-larger : {x y z : Contents 𝓢} → Merged x y z → Contained x.committed y.committed → y.committed ≡ z.committed
  merged-larger m b = sym (λ i. record { notes = (m.notes ∙ b.notes.absorbed) i; configuration = (m.configuration ∙ b.configuration.absorbed) i })

  pub merged-held : {f : Contents 𝓢} {Evidence : Contents 𝓢 → Type 0} {l : List (Contents 𝓢)} {x y z : Contents 𝓢} → Chain f Evidence l
      → Held l x → Held l y → Merged x y z → Held l z
  merged-held {f} {Evidence} {l} {x} {y} {z} c h k m = record {
    on = go (on-chain-total c x.committed y.committed h.on k.on);
    low = low';
  }
    where
      low' : AtMost 𝓢.notes z.committed.notes z.candidates
      low' = at-most-trans (at-most-of-eq m.notes) (join-at-most (at-most-trans h.low (merged-left m).candidates) (at-most-trans k.low (merged-right m).candidates))

      go : Contained x.committed y.committed ⊎ Contained y.committed x.committed → OnChain l z.committed
      go (inl b) = subst (λ (v : Book 𝓢). OnChain l v) (merged-larger m b) k.on
      go (inr b) = subst (λ (v : Book 𝓢). OnChain l v) (merged-larger (merged-swap m) b) h.on
