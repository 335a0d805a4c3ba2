-- Of the chains from one item to another one is the first of the shortest.
use Rattle.std.proofs.Common.{◌≡◌, ℕ, zero, suc, ◌<◌, ◌≤◌, List, [], ◌∷◌, ◌++◌, map, flat_map, get_or, length, refl, sym, ap, ◌∙◌, subst, inl, inr, ⊎_elim, arith}
use Rattle.std.proofs.lemmas.Bool.{cases_lt}
use Rattle.std.proofs.lemmas.List.{length-map, map-append, map-id}
use Rattle.wf_model.specs.Lists.{IsIn, IsAt, AllDiffer}
use Rattle.wf_model.specs.Grammar.{Grammar, Assignment}
use Rattle.wf_model.specs.WellFormed.{IsWellFormed}
use Rattle.wf_model.specs.View.{View}
use Rattle.wf_model.specs.declared.event.Event.{Event}
use Rattle.wf_model.specs.Run.{IsRun}
use Rattle.wf_model.specs.Items.{Item, items_by, items}
use Rattle.wf_model.proofs.Lists.{at_in, in_at, at_is, differ_at}
use Rattle.wf_model.proofs.Deciding.{Either, either_both, first_of_all}
use Rattle.label_model.proofs.Differing.{differ_map}
use Rattle.label_model.proofs.NamesDiffer.{item_names, names_differ}
use Rattle.chain_model.specs.Chains.{ChainStep, LeadsOn, StepsLead, IsItemChain}
use Rattle.chain_model.specs.Shortest.{items_along, ComesFirst, IsFirstShortestChain}
use Rattle.chain_model.specs.Laws.{FirstShortestLaw}
use Rattle.chain_model.proofs.ChainTests.{leads_either, ByMany, many_either, counted, ends_there}
use Rattle.chain_model.proofs.OneInstance.{chain_items_law}

-- the names of the items of a run, event by event
names_of_items : (g : Grammar) (events : List Event) → map (λ (t : Item). t.name) (items g g.start events) ≡ flat_map (item_names g) events
names_of_items g [] = refl
names_of_items g (e ∷ events) = map-append (λ (t : Item). t.name) (items_by g g.start e) (items g g.start events) ∙ ap (λ z. item_names g e ++ z) (names_of_items g events)

-- no item of a run stands twice among its items
pub items_differ : (g : Grammar) → IsWellFormed g → (events : List Event) → IsRun g g.start events → AllDiffer (items g g.start events)
items_differ g wf events run =
    subst AllDiffer (map-id (items g g.start events))
    (differ_map (λ (t : Item). t.name) (λ t. t) (items g g.start events) (subst AllDiffer (sym (names_of_items g events)) (names_differ g wf events run)) (λ x y i j e. ap (λ (t : Item). t.name) e))

-- of two lists each of which comes first, no element of the one stands before that of the other
both_first : (list : List Item) → AllDiffer list → (xs ys : List Item) → length xs ≡ length ys → ComesFirst list xs ys → ComesFirst list ys xs → xs ≡ ys
both_first list d [] [] e a b = refl
both_first list d [] (y ∷ ys) e a b = absurd (omega arith)
both_first list d (x ∷ xs) [] e a b = absurd a
both_first list d (x ∷ xs) (y ∷ ys) e (inl a) (inl b) =
    let p : a.1 ≡ b.0 = differ_at y a.1 b.0 list d a.3 b.2 in
    let q : a.0 ≡ b.1 = differ_at x a.0 b.1 list d a.2 b.3 in
    let l : a.0 < a.1 = a.4 in
    let r : b.0 < b.1 = b.4 in
    absurd (omega arith)
both_first list d (x ∷ xs) (y ∷ ys) e (inl a) (inr b) =
    let q : a.0 ≡ a.1 = differ_at x a.0 a.1 list d a.2 (subst (λ z. IsAt z a.1 list) b.0 a.3) in
    let l : a.0 < a.1 = a.4 in
    absurd (omega arith)
both_first list d (x ∷ xs) (y ∷ ys) e (inr a) (inl b) =
    let q : b.0 ≡ b.1 = differ_at y b.0 b.1 list d b.2 (subst (λ z. IsAt z b.1 list) a.0 b.3) in
    let l : b.0 < b.1 = b.4 in
    absurd (omega arith)
both_first list d (x ∷ xs) (y ∷ ys) e (inr a) (inr b) = let rest = both_first list d xs ys (omega arith) a.1 b.1 in λ k. a.0 k ∷ rest k

-- the first element of a list of which something is so
record IsFirstSo {A : Type 0} (P : A → Type 0) (xs : List A) : Type 0 where
  element : A
  place : ℕ
  at : IsAt element place xs
  so : P element
  first : (x : A) (k : ℕ) → IsAt x k xs → P x → place ≤ k

first_so : {A : Type 0} (P : A → Type 0) (xs : List A) → ((x : A) → IsIn x xs → Either (P x)) → (x : A) → IsIn x xs → P x → IsFirstSo P xs
first_so P [] either x h p = absurd h
first_so {A} P (y ∷ ys) either x h p = go (λ i. first_so P ys (λ z j. either z (inr j)) x i p) (either y (inl refl)) h
  where
    first : (y : A) → (P y → ⊥) → (r : IsFirstSo P ys) (z : A) (k : ℕ) → IsAt z k (y ∷ ys) → P z → suc r.place ≤ k
    first y n r z zero a q = absurd (n (subst P a q))
    first y n r z (suc k) a q = let l : r.place ≤ k = r.first z k a q in omega arith

    go : (IsIn x ys → IsFirstSo P ys) → Either (P y) → IsIn x (y ∷ ys) → IsFirstSo P (y ∷ ys)
    go ih (inl q) i = record { element = y; place = 0; at = refl; so = q; first = λ z k a s. omega arith }
    go ih (inr n) (inl e) = absurd (n (subst P e p))
    go ih (inr n) (inr i) = let r = ih i in record { element = r.element; place = suc r.place; at = r.at; so = r.so; first = first y n r }

module _ (g : Grammar) (u : View) (d : Assignment) (m : ℕ) (wf : IsWellFormed g) (events : List Event) (run : IsRun g m events) where
  -- steps that come first among all that are as many
  record AreFirst (n : ℕ) (x y : Item) : Type 0 where
    steps : List ChainStep
    lead : StepsLead g u d m events x steps y
    many : length steps ≡ n
    first : (others : List ChainStep) → StepsLead g u d m events x others y → length others ≡ n → ComesFirst (items g m events) (items_along steps) (items_along others)

  abbrev Next : ℕ → Item → Item → Item → Type 0
  Next n x y t = LeadsOn g u d m events x t × ByMany g u m events d n t y

  some_first : (n : ℕ) (x y : Item) → IsIn x (items g m events) → IsIn y (items g m events) → ByMany g u m events d n x y → AreFirst n x y
  some_first zero x y hx hy h = record { steps = []; lead = h; many = refl; first = λ others l e. tt }
  some_first (suc n) x y hx hy h =
      let r = first_so (Next n x y) (items g m events) (λ t i. either_both (leads_either g u m events d x t i) (many_either g u m events d wf run n t y i hy)) h.0 h.1 h.2 in
      let rest = some_first n r.element y (at_in r.element r.place (items g m events) r.at) hy r.so.1 in
      record { steps = record { via = r.so.0.0; item = r.element } ∷ rest.steps; lead = (r.so.0.1, rest.lead); many = ap suc rest.many; first = first r rest }
    where
      first : (r : IsFirstSo (Next n x y) (items g m events)) (rest : AreFirst n r.element y) (others : List ChainStep) → StepsLead g u d m events x others y → length others ≡ suc n → ComesFirst (items g m events) (r.element ∷ items_along rest.steps) (items_along others)
      first r rest [] l e = absurd (omega arith)
      first r rest (o ∷ others) l e =
          let k = in_at o.item (items g m events) l.0.there in
          let long : length others ≡ n = omega arith in
          let low : r.place ≤ k.0 = r.first o.item k.0 k.1 ((o.via, l.0), subst (λ z. ByMany g u m events d z o.item y) long (counted g u m events d o.item y others l.1)) in
          ⊎_elim
          (λ less. inl (r.place, k.0, r.at, k.1, less))
          (λ not.
          let place : r.place ≡ k.0 = omega arith in
          let same : r.element ≡ o.item = sym (at_is r.element r.place (items g m events) x r.at) ∙ (ap (λ z. get_or (items g m events) z x) place ∙ at_is o.item k.0 (items g m events) x k.1) in
          inr (same, rest.first others (subst (λ z. StepsLead g u d m events z others y) (sym same) l.1) long))
          (cases_lt r.place k.0)

  first_chain : (x y : Item) (steps : List ChainStep) → IsItemChain g u d m events x steps y → (first : List ChainStep) × IsFirstShortestChain g u d m events x first y
  first_chain x y [] c = let none : 0 < 0 = c.some in absurd (omega arith)
  first_chain x y (s ∷ steps) c =
      let hy = ends_there g u m events d x y (s ∷ steps) c.there c.steps_lead in
      let r = first_of_all (λ k. ByMany g u m events d (suc k) x y) (λ k. many_either g u m events d wf run (suc k) x y c.there hy) (length steps) (counted g u m events d x y (s ∷ steps) c.steps_lead) in
      let f = some_first (suc r.0) x y c.there hy r.2.so in
      let many : length f.steps ≡ suc r.0 = f.many in (
        f.steps,
        record {
          chain = record { there = c.there; visible = c.visible; some = omega arith; steps_lead = f.lead };
          fewest = λ others q. subst (λ z. z ≤ length others) (sym many) (fewer r.0 r.2.before others q);
          first = λ others q e. f.first others q.steps_lead (e ∙ many);
        },
      )
    where
      fewer : (k : ℕ) → ((j : ℕ) → j < k → ByMany g u m events d (suc j) x y → ⊥) → (others : List ChainStep) → IsItemChain g u d m events x others y → suc k ≤ length others
      fewer k none [] q = let z : 0 < 0 = q.some in absurd (omega arith)
      fewer k none (o ∷ others) q = ⊎_elim (λ less. absurd (none (length others) less (counted g u m events d x y (o ∷ others) q.steps_lead))) (λ not. omega arith) (cases_lt (length others) k)

pub first_shortest_law : FirstShortestLaw
first_shortest_law g u d wf events run x y =
    record {
      some = λ steps c. first_chain g u d g.start wf events run x y steps c;
      one = λ steps others a b.
          let long : length steps ≡ length others = let p : length steps ≤ length others = a.fewest others b.chain in let q : length others ≤ length steps = b.fewest steps a.chain in omega arith in
          let along : length (items_along steps) ≡ length (items_along others) = length-map steps _ ∙ (long ∙ sym (length-map others _)) in
          chain_items_law g u d g.start events run x y steps others a.chain b.chain
          (both_first (items g g.start events) (items_differ g wf events run) (items_along steps) (items_along others) along (a.first others b.chain (sym long)) (b.first steps a.chain long));
    }
