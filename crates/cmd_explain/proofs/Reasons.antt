-- For two names there is one text that tells why one item rests on the other.
use Rattle.std.proofs.Common.{◌≡◌, ◌⊎◌, ℕ, Bool, true, false, IsTrue, List, ◌++◌, map, Option, Some, None, refl, sym, ap, ◌∙◌, subst, inl, inr, ⊎_elim}
use Rattle.std.specs.Prelude.{codes}
use Rattle.wf_model.specs.Lists.{IsIn}
use Rattle.wf_model.specs.Grammar.{Grammar, Assignment}
use Rattle.wf_model.specs.WellFormed.{IsWellFormed}
use Rattle.wf_model.specs.Proper.{IsProper}
use Rattle.wf_model.specs.View.{View}
use Rattle.wf_model.specs.Safe.{IsSafe, IsFull}
use Rattle.wf_model.specs.declared.event.Event.{Event}
use Rattle.wf_model.specs.Run.{IsRun, opens, seen_in}
use Rattle.wf_model.specs.Finishing.{ExpandsComposites}
use Rattle.wf_model.specs.Items.{Item, items, IsMadeOpen, IsVisible}
use Rattle.wf_model.proofs.ItemNames.{item_of_name}
use Rattle.wf_model.proofs.Deciding.{Either, bytes_either, in_either}
use Rattle.wf_model.proofs.Lists.{in_map, in_map_from}
use Rattle.wf_laws.proofs.Full.{safe_full_law}
use Rattle.wf_laws.proofs.Growth.{finishing}
use Rattle.wf_laws.proofs.DependsOrNot.{depends_either}
use Rattle.wf_message.specs.Endings.{End, Done}
use Rattle.chain_model.specs.Chains.{ChainStep, IsItemChain}
use Rattle.chain_model.specs.Shortest.{IsFirstShortestChain}
use Rattle.chain_model.specs.ChainText.{chain_text}
use Rattle.chain_model.proofs.FullPairs.{chain_same, first_shortest_same}
use Rattle.chain_model.proofs.ChainLaws.{chain_law}
use Rattle.chain_model.proofs.ChainLists.{chain_list_law}
use Rattle.chain_model.proofs.FirstChains.{first_shortest_law}
use Rattle.cmd_explain.specs.Reasons.{HasNoneNamed, AreNamed, AreShown, IsReasonText, unknown, hidden, none, chain, IsReason}

-- the view shows an item, or not
visible_either : (g : Grammar) (u : View) (e : List Event) (t : Item) → Either (IsVisible g u g.start e t)
visible_either g u e t = made_either t.maker
  where
    told : (b : Bool) → Either (IsTrue b)
    told true = inl refl
    told false = inr (λ h. (cc))

    made_either : (m : Option (List ℕ)) → Either (IsMadeOpen g u g.start e m)
    made_either None = inl tt
    made_either (Some i) = told (opens u (seen_in g u g.start e) i)

module _ (g : Grammar) (u : View) (formed : IsWellFormed g) (e : List Event) (run : IsRun g g.start e) (first second : List ℕ) where
  -- items have the names, or none has one of them
  lacks : {x y : Item} → HasNoneNamed g e first ⊎ HasNoneNamed g e second → AreNamed g e first second x y → ⊥
  lacks {x} {y} (inl h) are = h x are.first_there are.first_is
  lacks {x} {y} (inr h) are = h y are.second_there are.second_is

  -- the names are those of one item each
  same_first : (x y z w : Item) → AreNamed g e first second x y → AreNamed g e first second z w → x ≡ z
  same_first x y z w a b = item_of_name g g.start e formed run x z a.first_there b.first_there (a.first_is ∙ sym b.first_is)

  same_second : (x y z w : Item) → AreNamed g e first second x y → AreNamed g e first second z w → y ≡ w
  same_second x y z w a b = item_of_name g g.start e formed run y w a.second_there b.second_there (a.second_is ∙ sym b.second_is)

  -- what is so of two items of the names is so of each two
  carried : (P : Item → Item → Type 0) (x y z w : Item) → AreNamed g e first second x y → AreNamed g e first second z w → P x y → P z w
  carried P x y z w a b h = subst (λ t. P t w) (same_first x y z w a b) (subst (λ t. P x t) (same_second x y z w a b) h)

  -- the text is one
  pub one_text : (d : Assignment) (s t : List ℕ) → IsReasonText g u d e first second s → IsReasonText g u d e first second t → s ≡ t
  one_text d s t (unknown h p) (unknown k q) = p ∙ sym q
  one_text d s t (unknown h p) (hidden x y a k q) = absurd (lacks h a)
  one_text d s t (unknown h p) (none x y a k n q) = absurd (lacks h a)
  one_text d s t (unknown h p) (chain x y a k c f q) = absurd (lacks h a)
  one_text d s t (hidden x y a h p) (unknown k q) = absurd (lacks k a)
  one_text d s t (hidden x y a h p) (hidden z w b k q) = p ∙ sym q
  one_text d s t (hidden x y a h p) (none z w b k n q) = absurd (h (carried (AreShown g u e) z w x y b a k))
  one_text d s t (hidden x y a h p) (chain z w b k c f q) = absurd (h (carried (AreShown g u e) z w x y b a k))
  one_text d s t (none x y a h n p) (unknown k q) = absurd (lacks k a)
  one_text d s t (none x y a h n p) (hidden z w b k q) = absurd (k (carried (AreShown g u e) x y z w a b h))
  one_text d s t (none x y a h n p) (none z w b k m q) = p ∙ sym q
  one_text d s t (none x y a h n p) (chain z w b k c f q) = absurd (n c (carried (λ v o. IsItemChain g u d g.start e v c o) z w x y b a f.chain))
  one_text d s t (chain x y a h c f p) (unknown k q) = absurd (lacks k a)
  one_text d s t (chain x y a h c f p) (hidden z w b k q) = absurd (k (carried (AreShown g u e) x y z w a b h))
  one_text d s t (chain x y a h c f p) (none z w b k n q) = absurd (n c (carried (λ v o. IsItemChain g u d g.start e v c o) x y z w a b f.chain))
  one_text d s t (chain x y a h c f p) (chain z w b k o m q) =
      let steps = (first_shortest_law g u d formed e run x y).one c o f (carried (λ v r. IsFirstShortestChain g u d g.start e v o r) z w x y b a m) in
      p ∙ (ap (λ v. chain_text v c) (same_first x y z w a b) ∙ (ap (λ l. chain_text z l) steps ∙ sym q))

  module _ (proper : IsProper g) (composites : ExpandsComposites g u) where
    -- and the same by each full assignment
    text_same : (d b : Assignment) → IsFull g u d → IsFull g u b → (t : List ℕ) → IsReasonText g u d e first second t → IsReasonText g u b e first second t
    text_same d b of_d of_b t (unknown h p) = unknown h p
    text_same d b of_d of_b t (hidden x y a h p) = hidden x y a h p
    text_same d b of_d of_b t (none x y a h n p) = none x y a h (λ steps c. n steps (chain_same g u proper composites b d of_b of_d e run x y steps c)) p
    text_same d b of_d of_b t (chain x y a h c f p) = chain x y a h c (first_shortest_same g u proper composites d b of_d of_b e run x y c f) p

    pub one_reason : (a b : End) (s t : List ℕ) → IsReason g u e first second a s → IsReason g u e first second b t → (a ≡ b) × (s ≡ t)
    one_reason a b s t p q = (p.done ∙ sym q.done, one_text p.d s t p.reason (text_same q.d p.d q.full p.full t q.reason))

    module _ (safe : IsSafe g u) where
      -- an item of a run has a name, or none has
      named_or_none : (name : List ℕ) → ((t : Item) × IsIn t (items g g.start e) × (t.name ≡ name)) ⊎ HasNoneNamed g e name
      named_or_none name = ⊎_elim
          (λ i. let t = in_map_from (λ (z : Item). z.name) name (items g g.start e) i in inl (t.0, t.1, sym t.2))
          (λ n. inr (λ t i is. n (subst (λ z. IsIn z (map (λ (z : Item). z.name) (items g g.start e))) is (in_map (λ (z : Item). z.name) t (items g g.start e) i))))
          (in_either bytes_either name (map (λ (z : Item). z.name) (items g g.start e)))

      -- for two items that the view shows a chain leads from one to the other, or none does
      shown_text : (d : Assignment) → IsFull g u d → (x y : Item) → AreNamed g e first second x y → AreShown g u e x y → (t : List ℕ) × IsReasonText g u d e first second t
      shown_text d full x y a shown =
          let more = finishing g u proper composites g.start e run in
          let law = (chain_law g u d formed proper composites full e run x y a.first_there a.second_there shown.0 shown.1).in_any more.0 more.1 in
          let lists = chain_list_law g u d g.start e x y a.first_there shown.0 in
          ⊎_elim
          (λ depends.
          let c = lists.0 (law.1 depends) in
          let f = (first_shortest_law g u d formed e run x y).some c.0 c.1 in
          (chain_text x f.0, chain x y a shown f.0 f.1 refl))
          (λ not. (codes "no\n", none x y a shown (λ steps c. not (law.0 (lists.1 (steps, c)))) refl))
          (depends_either g u (e ++ more.0) x y)

      pub some_reason : (t : List ℕ) × IsReason g u e first second Done t
      some_reason =
          let full = safe_full_law g u formed proper composites safe in
          let text = by full.0 full.1 (named_or_none first) (named_or_none second) in
          (text.0, record { done = refl; d = full.0; full = full.1; reason = text.1 })
        where
          seen : (d : Assignment) → IsFull g u d → (x y : Item) → AreNamed g e first second x y → Either (IsVisible g u g.start e x) → Either (IsVisible g u g.start e y) → (t : List ℕ) × IsReasonText g u d e first second t
          seen d full x y a (inl p) (inl q) = shown_text d full x y a (p, q)
          seen d full x y a (inl p) (inr q) = (codes "hidden\n", hidden x y a (λ h. q h.1) refl)
          seen d full x y a (inr p) q = (codes "hidden\n", hidden x y a (λ h. p h.0) refl)

          by : (d : Assignment) → IsFull g u d → ((t : Item) × IsIn t (items g g.start e) × (t.name ≡ first)) ⊎ HasNoneNamed g e first → ((t : Item) × IsIn t (items g g.start e) × (t.name ≡ second)) ⊎ HasNoneNamed g e second → (t : List ℕ) × IsReasonText g u d e first second t
          by d full (inr n) b = (codes "unknown\n", unknown (inl n) refl)
          by d full (inl x) (inr n) = (codes "unknown\n", unknown (inr n) refl)
          by d full (inl x) (inl y) =
              let a : AreNamed g e first second x.0 y.0 = record { first_there = x.1; first_is = x.2; second_there = y.1; second_is = y.2 } in
              seen d full x.0 y.0 a (visible_either g u e x.0) (visible_either g u e y.0)
