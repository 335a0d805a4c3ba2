-- Bits come to something over a package with good loops: they are inside, outside or malformed.
use Rattle.std.proofs.Common.{◌≡◌, ◌≢◌, ◌⊎◌, ℕ, zero, suc, ◌+◌, ◌-◌, ◌^◌, ◌<◌, ◌≤◌, Bool, true, false, List, [], ◌∷◌, ◌++◌, length, Option, Some, None, refl, sym, ap, ◌∙◌, subst, inl, inr, ⊎_elim, arith, length-append}
use Rattle.wf_model.specs.Grammar.{Grammar, production_at, inputs_of, outputs_of, body_of, head_of, alternative_of, IsProductionOf, IsAtomic, IsComposite}
use Rattle.wf_model.specs.Reach.{Step, target_of, module_along}
use Rattle.wf_model.proofs.Deciding.{Either, either_both, number_either, below_either, some_below}
use Rattle.bit_pack.specs.Gamma.{gamma}
use Rattle.bit_pack.specs.Reading.{IsPadding}
use Rattle.bit_pack.proofs.Codes.{prefix_free_law}
use Rattle.bit_pack.proofs.CodeOrNone.{one_or_zeros}
use Rattle.bit_pack.proofs.Fronts.{no_one}
use Rattle.label_model.specs.Continuing.{is_step}
use Rattle.label_model.specs.Labels.{chain_bits, step_bits, Input, Output, OfEdge}
use Rattle.label_model.specs.Places.{place_of}
use Rattle.label_model.proofs.Finding.{cases_option}
use Rattle.label_model.proofs.LabelOrNot.{BeginsWith, code_either, left_shorter}
use Rattle.package_model.specs.Packages.{LoopEntry}
use Rattle.package_model.specs.Loops.{AreLoopsOf, AreGoodLoops}
use Rattle.package_model.specs.Translating.{Loops, AreLoopSteps, StandsFor, LeavesBy, Translation, Inside, Outside, Malformed, IsTranslation}
use Rattle.package_model.proofs.LoopSteps.{AreSteps, good_steps}
use Rattle.wf_check.proofs.Derived.{composite_either}
use Rattle.wf_label.specs.Parts.{HasNoNumber}
use Rattle.wf_translate.specs.Readable.{ReadsPlace, ReadsOut, IsReadable}
use Rattle.wf_translate.specs.Parts.{BeginsByStep, IsEndingBy, HasNoPart, IsLastNumber, HasNoLastNumber}
use Rattle.wf_translate.proofs.Readings.{place_more, out_more, place_here, out_here, step_by, leaves_by_step, step_is}
use Rattle.wf_translate.proofs.FirstReadings.{back_step, nothing_behind, nothing_before}
use Rattle.wf_translate.proofs.PartsRead.{last_number, no_last_number, more_behind, position_read, no_position, loop_position, part_step, part_end, no_bit, no_alternative, no_step_position, no_edge}
use Rattle.wf_translate.proofs.Whole.{edge_inside, edge_outside, edge_malformed, input_inside, output_inside, input_malformed, output_malformed, zero_malformed, nothing_malformed}
use Rattle.decode_model.proofs.Rounds.{module_along-append}

true_or_false : (b : Bool) → (b ≡ true) ⊎ (b ≡ false)
true_or_false true = inl refl
true_or_false false = inr refl

-- bits are padding, or not
padding_either : (bits : List Bool) → Either (IsPadding bits)
padding_either bits = ⊎_elim
    (λ r. inr (λ h. no_one r.0 (length bits) r.1 (sym r.2 ∙ h.zeros)))
    (λ e. ⊎_elim (λ few. inl (record { few = few; zeros = e })) (λ many. inr (λ h. many h.few)) (below_either (length bits) 8))
    (one_or_zeros bits)

same_number : (bits : List Bool) (m n : ℕ) (x y : List Bool) → bits ≡ gamma (m + 1) ++ x → bits ≡ gamma (n + 1) ++ y → m ≡ n
same_number bits m n x y p q = let r = prefix_free_law (m + 1) (n + 1) x y (omega arith) (omega arith) (sym p ∙ q) in omega (arith, r.0)

-- bits begin with a number below a count, or with none
number_or_none : (count : ℕ) (bits : List Bool) → ((n : ℕ) × (left : List Bool) × (n < count) × (bits ≡ gamma (n + 1) ++ left)) ⊎ HasNoNumber count bits
number_or_none count bits = ⊎_elim
    (λ r. ⊎_elim
    (λ low. inl (r.0, r.1, low, r.2))
    (λ high. inr (λ n rest l e. high (subst (λ k. k < count) (sym (same_number bits r.0 n r.1 rest r.2 e)) l)))
    (below_either r.0 count))
    (λ none. inr (λ n rest l e. none (n, rest, e)))
    (code_either bits)

-- a last number
last_or_none : (count : ℕ) (bits : List Bool) → ((n : ℕ) × IsLastNumber count bits n) ⊎ HasNoLastNumber count bits
last_or_none count bits = ⊎_elim
    (λ r. ⊎_elim (λ pad. inl (r.0, last_number count r.0 bits r.1 r.2 r.3 pad)) (λ more. inr (more_behind count r.0 bits r.1 r.3 more)) (padding_either r.1))
    (λ none. inr (no_last_number count bits none))
    (number_or_none count bits)

module _ (g : Grammar) (loop : Loops) (k : ℕ) where
  -- the part of a place that comes at a module
  abbrev Part : List Bool → Type 0
  Part bits = ((s : Step) × (new : List Bool) × BeginsByStep g loop k bits s new) ⊎ ((p : ℕ) × (e : ℕ) × IsEndingBy g k bits p e)

  module _ (y : List Bool) (p : ℕ) (z : List Bool) (of_it : IsProductionOf g p k) (is : y ≡ gamma (alternative_of g p + 1) ++ z) where
    by_position : Part (true ∷ y) ⊎ HasNoPart g loop k (true ∷ y)
    by_position = ⊎_elim
        (λ r.
        let s : Step = record { production = p; position = r.0 } in
        ⊎_elim
        (λ own. inr (no_step_position g loop k p true (true ∷ y) y z of_it refl refl is (loop_position g loop k p s z r.1 refl own r.3)))
        (λ other. inl (inl (s, r.1, part_step g loop k p true s (true ∷ y) y z r.1 refl refl is (position_read g loop k p s z r.1 of_it refl r.2 other r.3))))
        (true_or_false (is_step (loop k) s)))
        (λ none. inr (no_step_position g loop k p true (true ∷ y) y z of_it refl refl is (no_position g loop k p (length (body_of g p)) z refl none)))
        (number_or_none (length (body_of g p)) z)

    by_edge : Part (false ∷ y) ⊎ HasNoPart g loop k (false ∷ y)
    by_edge = ⊎_elim
        (λ r. inl (inr (p, r.0, part_end g loop k p false r.0 (false ∷ y) y z of_it refl refl is r.1)))
        (λ none. inr (no_edge g loop k p false (false ∷ y) y z of_it refl refl is none))
        (last_or_none (length (production_at g p).edges) z)

    by_bit : (b : Bool) → Part (b ∷ y) ⊎ HasNoPart g loop k (b ∷ y)
    by_bit true = by_position
    by_bit false = by_edge

  abbrev HasAlternative : ℕ → ℕ → Type 0
  HasAlternative a p = (head_of g p ≡ k) × (alternative_of g p ≡ a)

  part_or_none : (bits : List Bool) → Part bits ⊎ HasNoPart g loop k bits
  part_or_none [] = inr (no_bit g loop k [] refl)
  part_or_none (b ∷ y) = ⊎_elim by_code (λ none. inr (no_alternative g loop k b (b ∷ y) y refl (λ p rest of_it e. none (alternative_of g p, rest, e)))) (code_either y)
    where
      by_code : BeginsWith y → Part (b ∷ y) ⊎ HasNoPart g loop k (b ∷ y)
      by_code r = ⊎_elim
          (λ q. by_bit y q.0 r.1 (q.1, q.2.0) (r.2 ∙ ap (λ n. gamma (n + 1) ++ r.1) (sym q.2.1)) b)
          (λ none. inr (no_alternative g loop k b (b ∷ y) y refl (λ p rest of_it e. none (p, of_it.0, (of_it.1, same_number y (alternative_of g p) r.0 rest r.1 e r.2)))))
          (some_below (HasAlternative r.0) (length g.productions) (λ p l. either_both (number_either (head_of g p) k) (number_either (alternative_of g p) r.0)))

module _ (g : Grammar) (entries : List LoopEntry) (loop : Loops) (good : AreGoodLoops g entries) (loops : AreLoopsOf g entries loop) where
  abbrev are : AreSteps g loop
  are = good_steps g entries loop good loops

  -- a composite module to which a loop step leads has one
  leads_on : (m : ℕ) (s : Step) → loop m ≡ Some s → IsComposite g (target_of g s) → loop (target_of g s) ≢ None
  leads_on m s e composite none =
      let t = good.targets m s ((loops m s).0 e) composite in
      let q = sym ((loops (target_of g s) t.0).1 t.1) ∙ none in
      absurd (cc)

  -- loop steps, so many or fewer, lead to a module
  record Round (m n : ℕ) : Type 0 where
    round : List Step
    steps : AreLoopSteps g loop m round
    few : length round ≤ n
    end : ((length round ≡ n) × IsComposite g (module_along g m round)) ⊎ IsAtomic g (module_along g m round)

  -- a loop step, and then others
  round_on : (n m : ℕ) (s : Step) → loop m ≡ Some s → ((k : ℕ) → IsComposite g k → loop k ≢ None → Round k n) → Round m (suc n)
  round_on n m s is next = ⊎_elim
      (λ c. let r = next (target_of g s) c (leads_on m s is c) in let few = r.few in record {
        round = s ∷ r.round;
        steps = (is, r.steps);
        few = omega arith;
        end = ⊎_elim (λ h. let e = h.0 in inl (omega arith, h.1)) (λ a. inr a) r.end;
      })
      (λ a. record { round = s ∷ []; steps = (is, tt); few = omega arith; end = inr (λ p l h. a (p, (l, h))) })
      (composite_either g (target_of g s))

  rounds : (n m : ℕ) → IsComposite g m → loop m ≢ None → Round m n
  rounds zero m composite on = record { round = []; steps = tt; few = omega arith; end = inl (refl, composite) }
  rounds (suc n) m composite on = ⊎_elim (λ none. absurd (on none)) (λ s. round_on n m s.0 s.1 (rounds n)) (cases_option (loop m))

  -- a chain number that may not be there leads to a composite module
  record ChainBefore (m : ℕ) (bits : List Bool) : Type 0 where
    chain : Option ℕ
    round : List Step
    stands : StandsFor g loop m chain round
    composite : IsComposite g (module_along g m round)
    left : List Bool
    is : bits ≡ chain_bits chain ++ left
    fewer : length left ≤ length bits

  chain_or : (m : ℕ) (bits : List Bool) → ChainBefore m bits ⊎ (ReadsOut g loop m bits ⊎ (IsReadable g loop m bits → ⊥))
  chain_or m bits = ⊎_elim
      (λ c. ⊎_elim
      (λ none. inl (record { chain = None; round = []; stands = (none, refl); composite = c; left = bits; is = refl; fewer = omega arith }))
      (λ s. by_number c (λ none. let e = sym s.1 ∙ none in absurd (cc)) (number_or_none (2 ^ 24) bits))
      (cases_option (loop m)))
      (λ a. inr (inl (out_here g loop m None bits bits (record { round = []; goes = refl; atomic = λ p l h. a (p, (l, h)) }) refl)))
      (composite_either g m)
    where
      by_number : IsComposite g m → loop m ≢ None → ((n : ℕ) × (left : List Bool) × (n < 2 ^ 24) × (bits ≡ gamma (n + 1) ++ left)) ⊎ HasNoNumber (2 ^ 24) bits → ChainBefore m bits ⊎ (ReadsOut g loop m bits ⊎ (IsReadable g loop m bits → ⊥))
      by_number c on (inr none) = inr (inr (nothing_before g loop are m bits on none))
      by_number c on (inl r) =
          let w = rounds r.0 m c on in
          let low : r.0 + 1 ≤ 2 ^ 24 = omega (arith, r.2) in
          ⊎_elim
          (λ h. inl (record { chain = Some r.0; round = w.round; stands = (on, low, w.steps, h.0); composite = h.1; left = r.1; is = r.3; fewer = left_shorter r.0 bits r.1 r.3 }))
          (λ a. inr (inl (out_here g loop m (Some r.0) bits r.1 (record { round = w.round; goes = (on, low, w.steps, w.few); atomic = a }) r.3)))
          w.end

  -- what is told behind a chain number, where it is known of fewer bits whether they tell something
  module _ (m : ℕ) (bits : List Bool) (c : ChainBefore m bits) (next : (new : List Bool) → length new < length bits → (k : ℕ) → Either (IsReadable g loop k new)) where
    abbrev at : ℕ
    at = module_along g m c.round

    by_step : (s : Step) (new : List Bool) → BeginsByStep g loop at c.left s new → Either (IsReadable g loop m bits)
    by_step s new begins = ⊎_elim (λ h. inl (⊎_elim by_place by_out h)) (λ none. inr (λ h. none (back_step g loop are m at c.chain c.round bits c.left s new c.stands refl c.composite c.is begins h))) (next new fewer (target_of g s))
      where
        leaves : LeavesBy g loop m (step_by g loop c.chain s) (c.round ++ s ∷ [])
        leaves = leaves_by_step g loop m c.chain c.round at c.left s new c.stands refl begins

        to : module_along g m (c.round ++ s ∷ []) ≡ target_of g s
        to = module_along-append g m c.round (s ∷ [])

        is : bits ≡ step_bits (step_by g loop c.chain s) ++ new
        is = step_is g loop c.chain at bits c.left s new c.is begins

        fewer : length new < length bits
        fewer =
            let e = ap length begins.is in
            let l = length-append (gamma (alternative_of g s.production + 1)) (gamma (s.position + 1) ++ new) in
            let j = length-append (gamma (s.position + 1)) new in
            let f = c.fewer in
            omega arith

        by_place : ((a : List Step) × (p : ℕ) × (e : ℕ) × ReadsPlace g loop (target_of g s) new a p e) → IsReadable g loop m bits
        by_place r = inl (_, r.1, r.2, place_more g loop m (step_by g loop c.chain s) (c.round ++ s ∷ []) (target_of g s) bits new leaves to is r.0 r.1 r.2 r.3)

        by_out : ReadsOut g loop (target_of g s) new → IsReadable g loop m bits
        by_out out = inr (out_more g loop m (step_by g loop c.chain s) (c.round ++ s ∷ []) (target_of g s) bits new leaves to is out)

    behind_chain : Either (IsReadable g loop m bits)
    behind_chain = ⊎_elim
        (λ part. ⊎_elim
        (λ s. by_step s.0 s.1 s.2)
        (λ x. inl (inl (c.round, x.0, x.1, place_here g loop m c.chain c.round at bits c.left x.0 x.1 c.stands refl c.is x.2)))
        part)
        (λ none. inr (nothing_behind g loop are m at c.chain c.round bits c.left c.stands refl c.composite c.is none))
        (part_or_none g loop at c.left)

  readable_with : (m : ℕ) (bits : List Bool) → ((new : List Bool) → length new < length bits → (k : ℕ) → Either (IsReadable g loop k new)) → Either (IsReadable g loop m bits)
  readable_with m bits next = ⊎_elim (λ c. behind_chain m bits c next) (λ r. ⊎_elim (λ out. inl (inr out)) (λ none. inr none) r) (chain_or m bits)

  -- bits tell something at a module, or nothing
  readable_either : (n m : ℕ) (bits : List Bool) → length bits ≤ n → Either (IsReadable g loop m bits)
  readable_either zero m bits most = readable_with m bits (λ new l k. absurd (omega arith))
  readable_either (suc n) m bits most = readable_with m bits (λ new l k. readable_either n k new (omega arith))

  pub some_translation : (bits : List Bool) → (t : Translation) × IsTranslation g loop bits t
  some_translation [] = (Malformed, nothing_malformed g loop)
  some_translation (true ∷ bits) = ⊎_elim
      (λ h. ⊎_elim
      (λ r. (Inside (OfEdge (place_of g g.start r.0 r.1 r.2)), edge_inside g loop bits (place_of g g.start r.0 r.1 r.2) (record { way = r.0; production = r.1; edge = r.2; reads = r.3; is = refl })))
      (λ out. (Outside, edge_outside g loop bits out))
      h)
      (λ none. (Malformed, edge_malformed g loop bits none))
      (readable_either (length bits) g.start bits (omega arith))
  some_translation (false ∷ []) = (Malformed, zero_malformed g loop)
  some_translation (false ∷ (false ∷ bits)) = ⊎_elim
      (λ p. (Inside (Input p.0), input_inside g loop bits p.0 p.1))
      (λ none. (Malformed, input_malformed g loop bits none))
      (last_or_none (inputs_of g g.start) bits)
  some_translation (false ∷ (true ∷ bits)) = ⊎_elim
      (λ p. (Inside (Output p.0), output_inside g loop bits p.0 p.1))
      (λ none. (Malformed, output_malformed g loop bits none))
      (last_or_none (outputs_of g g.start) bits)
