-- Words of sources tell the paths from them, position after position.
use Rattle.std.proofs.Common.{◌≡◌, ◌↔◌, ℕ, ◌+◌, ◌<◌, ◌≤◌, ◌++◌, IsTrue, List, [], ◌∷◌, length, get_or, set, take, Option, Some, None, refl, sym, ap, ◌∙◌, subst, inl, inr, ⊎_elim, arith, length-set}
use Rattle.std.proofs.lemmas.List.{get_or-map, get_or-set_same, get_or-set_other, length-map, take_all, take_more}
use Rattle.std.proofs.lemmas.Bool.{cases_eq}
use Rattle.wf_model.specs.declared.numbers.PosNo.{PosNo}
use Rattle.wf_model.specs.declared.numbers.Side.TheVariants.{Input, Output}
use Rattle.wf_model.specs.Lists.{IsIn, IsAt}
use Rattle.wf_model.specs.Grammar.{Grammar, Assignment, Inner, body_of, inputs_of, outputs_of}
use Rattle.wf_model.specs.Links.{Port, input}
use Rattle.wf_model.specs.WellFormed.{IsFollowedBy, IsWellFormedBody}
use Rattle.wf_model.proofs.Lists.{at_is, in_append_cases}
use Rattle.bool_mat.specs.Matrix.{has}
use Rattle.wf_body.specs.Body.{ToInput, ToOutput}
use Rattle.wf_body.specs.Order.{IsOrder, positions_of}
use Rattle.wf_body.specs.Words.{AreInputs, AreOutputs, AreTold, AreToldAt, source}
use Rattle.wf_body.proofs.Links.{led_to}

-- no source is an input of a position
pub source_apart : (from : Option PosNo) (k j x : ℕ) → source from x ≡ input (Some k) j → ⊥
source_apart None k j x e = let q : None ≡ Some k = ap (λ (z : Port (Option ℕ)). z.owner) e in cc
source_apart (Some s) k j x e = let q : Output ≡ Input = ap (λ (z : Port (Option ℕ)). z.side) e in cc

-- at a position, where the words of its feeders tell the paths
module _ (g : Grammar) (d : Assignment) (p k : ℕ) (from : Option PosNo) (ins outs : List (List ℕ)) (row row' : List ℕ) (wf : IsWellFormedBody g p) (before : (a : ℕ) → IsFollowedBy g p a k → AreToldAt g d p from ins outs a) (i : AreInputs g p from k outs row) (o : AreOutputs g d p from k row row') where
  pub inputs_here : (j x : ℕ) → IsTrue (has (get_or row j 0) x) ↔ ToInput g d p (source from x) k j
  inputs_here j x =
      let law = (led_to g d p (source from x)).inputs k j in (
        (λ t. law.1 (inr (⊎_elim (λ a. inl a)
            (λ b. let w = wf.edges_from b.0 b.1 in inr (b.0, b.1, b.2, ((before b.0.from.position (b.0, b.1, refl, ap (λ (z : Inner). z.position) b.2)).outputs w.0 b.0.from.port x w.1 w.2).0 b.3))
            ((i j x).0 t)))),
        λ h. (i j x).1 (⊎_elim (λ e. absurd (source_apart from k j x e)) (λ s. ⊎_elim (λ a. inl a)
            (λ b. let w = wf.edges_from b.0 b.1 in inr (b.0, b.1, b.2, ((before b.0.from.position (b.0, b.1, refl, ap (λ (z : Inner). z.position) b.2)).outputs w.0 b.0.from.port x w.1 w.2).1 b.3))
            s) (law.0 h)),
      )

  pub outputs_here : (m n x : ℕ) → IsAt m k (body_of g p) → n < outputs_of g m → IsTrue (has (get_or row' n 0) x) ↔ ToOutput g d p (source from x) k n
  outputs_here m n x a l =
      let law = (led_to g d p (source from x)).outputs k n in (
        (λ t. law.1 (⊎_elim (λ e. inl e) (λ s. inr (m, s.0, a, s.1, l, s.2, (inputs_here s.0 x).0 s.3)) ((o m n x a l).0 t))),
        λ h. (o m n x a l).1 (⊎_elim (λ e. inl e)
            (λ s. let same : s.0 ≡ m = sym (at_is s.0 k (body_of g p) 0 s.2) ∙ at_is m k (body_of g p) 0 a in
            inr (s.1, subst (λ z. s.1 < inputs_of g z) same s.3, subst (λ z. IsTrue (d z s.1 n)) same s.5, (inputs_here s.1 x).1 s.6))
            (law.0 h)),
      )

-- the words of the positions done tell the paths
pub record AreToldFor (g : Grammar) (d : Assignment) (p : ℕ) (from : Option PosNo) (done : List ℕ) (ins outs : List (List ℕ)) : Type 0 where
  pub as_many_inputs : length ins ≡ length (body_of g p)
  pub as_many_outputs : length outs ≡ length (body_of g p)
  pub each : (k : ℕ) → IsIn k done → AreToldAt g d p from ins outs k

pub told_none : (g : Grammar) (d : Assignment) (p : ℕ) (from : Option PosNo) (ins outs : List (List ℕ)) → length ins ≡ length (body_of g p) → length outs ≡ length (body_of g p) → AreToldFor g d p from [] ins outs
told_none g d p from ins outs i o = record { as_many_inputs = i; as_many_outputs = o; each = λ k h. absurd h }

-- the next position
told_more : (g : Grammar) (d : Assignment) (p k : ℕ) (from : Option PosNo) (done : List ℕ) (ins outs : List (List ℕ)) (row row' : List ℕ) → IsWellFormedBody g p → AreToldFor g d p from done ins outs → k < length (body_of g p) →
    ((a : ℕ) → IsFollowedBy g p a k → IsIn a done) → AreInputs g p from k outs row → AreOutputs g d p from k row row' → AreToldFor g d p from (done ++ k ∷ []) (set ins k row) (set outs k row')
told_more g d p k from done ins outs row row' wf told room after i o =
    record {
      as_many_inputs = length-set ins k row ∙ told.as_many_inputs;
      as_many_outputs = length-set outs k row' ∙ told.as_many_outputs;
      each = λ q h. ⊎_elim (λ e. subst (AreToldAt g d p from (set ins k row) (set outs k row')) (sym e) here)
          (λ n. other q n (⊎_elim (λ a. a) (λ b. ⊎_elim (λ e. absurd (n e)) (λ z. absurd z) b) (in_append_cases q done (k ∷ []) h))) (cases_eq q k);
    }
  where
    before : (a : ℕ) → IsFollowedBy g p a k → AreToldAt g d p from ins outs a
    before a w = told.each a (after a w)

    here : AreToldAt g d p from (set ins k row) (set outs k row') k
    here =
        let li = told.as_many_inputs in
        let lo = told.as_many_outputs in
        let ki : k < length ins = omega arith in
        let ko : k < length outs = omega arith in
        record {
          inputs = λ j x. subst (λ (w : List ℕ). IsTrue (has (get_or w j 0) x) ↔ ToInput g d p (source from x) k j) (sym (get_or-set_same ins k row [] ki)) (inputs_here g d p k from ins outs row row' wf before i o j x);
          outputs = λ m n x a l. subst (λ (w : List ℕ). IsTrue (has (get_or w n 0) x) ↔ ToOutput g d p (source from x) k n) (sym (get_or-set_same outs k row' [] ko)) (outputs_here g d p k from ins outs row row' wf before i o m n x a l);
        }

    other : (q : ℕ) → (q ≡ k → ⊥) → IsIn q done → AreToldAt g d p from (set ins k row) (set outs k row') q
    other q n h =
        let t = told.each q h in
        record {
          inputs = λ j x. subst (λ (w : List ℕ). IsTrue (has (get_or w j 0) x) ↔ ToInput g d p (source from x) q j) (sym (get_or-set_other ins k q row [] n)) (t.inputs j x);
          outputs = λ m o' x a l. subst (λ (w : List ℕ). IsTrue (has (get_or w o' 0) x) ↔ ToOutput g d p (source from x) q o') (sym (get_or-set_other outs k q row' [] n)) (t.outputs m o' x a l);
        }

pub told_next : (g : Grammar) (d : Assignment) (p n k : ℕ) (from : Option PosNo) (order : List ℕ) (ins outs : List (List ℕ)) (row row' : List ℕ) → IsWellFormedBody g p → IsOrder g p order → n < length order → k ≡ get_or order n 0 → AreToldFor g d p from (take n order) ins outs →
    AreInputs g p from k outs row → AreOutputs g d p from k row row' → AreToldFor g d p from (take (n + 1) order) (set ins k row) (set outs k row')
told_next g d p n k from order ins outs row row' wf is h e told i o =
    subst (λ done. AreToldFor g d p from done (set ins k row) (set outs k row')) (sym (take_more order n 0 h ∙ ap (λ z. take n order ++ z ∷ []) (sym e)))
    (told_more g d p k from (take n order) ins outs row row' wf told (subst (λ z. z < length (body_of g p)) (sym e) (is.each.within n h)) (λ a w. is.each.forward n a h (subst (IsFollowedBy g p a) e w)) i o)

pub told_all : (g : Grammar) (d : Assignment) (p : ℕ) (from : Option PosNo) (order : List ℕ) (ins outs : List (List ℕ)) → IsOrder g p order → AreToldFor g d p from order ins outs → AreTold g d p from ins outs
told_all g d p from order ins outs is told = record { as_many_inputs = told.as_many_inputs; as_many_outputs = told.as_many_outputs; each = λ k h. told.each k (is.whole k h) }

-- the order as it is held
held_position : (xs : List PosNo) (n : ℕ) (d : PosNo) → n < length xs → (get_or xs n d).0 ≡ get_or (positions_of xs) n 0
held_position xs n d h = sym (get_or-map (λ (q : PosNo). q.0) xs n d 0 h)

pub held_order_within : (g : Grammar) (p n : ℕ) (xs ys : List PosNo) (d : PosNo) → IsOrder g p (positions_of ys) → xs ≡ ys → n < length xs → (get_or xs n d).0 < length (body_of g p)
held_order_within g p n xs ys d is same h =
    let is' : IsOrder g p (positions_of xs) = subst (λ z. IsOrder g p (positions_of z)) (sym same) is in
    let l = length-map xs (λ (q : PosNo). q.0) in
    let h' : n < length (positions_of xs) = omega arith in
    subst (λ z. z < length (body_of g p)) (sym (held_position xs n d h)) (is'.each.within n h')

pub held_next : (g : Grammar) (d : Assignment) (p n : ℕ) (q : PosNo) (from : Option PosNo) (xs ys : List PosNo) (ins outs : List (List ℕ)) (row row' : List ℕ) → IsWellFormedBody g p → IsOrder g p (positions_of ys) → xs ≡ ys → n < length xs → AreToldFor g d p from (take n (positions_of xs)) ins outs →
    AreInputs g p from (get_or xs n q).0 outs row → AreOutputs g d p from (get_or xs n q).0 row row' → AreToldFor g d p from (take (n + 1) (positions_of xs)) (set ins (get_or xs n q).0 row) (set outs (get_or xs n q).0 row')
held_next g d p n q from xs ys ins outs row row' wf is same h told i o =
    let is' : IsOrder g p (positions_of xs) = subst (λ z. IsOrder g p (positions_of z)) (sym same) is in
    let l = length-map xs (λ (q : PosNo). q.0) in
    let h' : n < length (positions_of xs) = omega arith in
    told_next g d p n (get_or xs n q).0 from (positions_of xs) ins outs row row' wf is' h' (held_position xs n q h) told i o

pub held_all : (g : Grammar) (d : Assignment) (p n : ℕ) (from : Option PosNo) (xs ys : List PosNo) (ins outs : List (List ℕ)) → IsOrder g p (positions_of ys) → xs ≡ ys → length xs ≤ n → AreToldFor g d p from (take n (positions_of xs)) ins outs → AreTold g d p from ins outs
held_all g d p n from xs ys ins outs is same past told =
    let l = length-map xs (λ (q : PosNo). q.0) in
    let past' : length (positions_of xs) ≤ n = omega arith in
    told_all g d p from (positions_of ys) ins outs is
    (subst (λ z. AreToldFor g d p from (positions_of z) ins outs) same (subst (λ z. AreToldFor g d p from z ins outs) (take_all n (positions_of xs) past') told))
