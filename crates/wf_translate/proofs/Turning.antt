-- Steps of a place that are read one after another.
use Rattle.std.proofs.Common.{◌≡◌, ℕ, ◌+◌, ◌<◌, Bool, List, [], ◌∷◌, ◌++◌, length, Option, refl, sym, ap, ◌∙◌, subst, arith, append_assoc, append-nil, length-append}
use Rattle.wf_model.specs.declared.numbers.EdgeNo.{EdgeNo}
use Rattle.wf_model.specs.Grammar.{Grammar, alternative_of, IsProductionOf}
use Rattle.wf_model.specs.Reach.{Step, target_of, module_along}
use Rattle.wf_model.specs.Linear.{IsStepOf}
use Rattle.wf_model.specs.Steps.{step_of}
use Rattle.bit_pack.specs.Gamma.{gamma}
use Rattle.label_model.specs.Labels.{PlaceStep, chain_bits}
use Rattle.decode_model.proofs.Rounds.{module_along-append}
use Rattle.package_model.specs.Translating.{Loops}
use Rattle.wf_spec.specs.Held.{HeldGrammar}
use Rattle.wf_loops.specs.Looped.{LoopedValue, IsLooped, loop_in}
use Rattle.wf_translate.specs.declared.part.StepOrEnd.{StepOrEnd}
use Rattle.wf_translate.specs.declared.part.StepOrEnd.TheVariants.{Step as StepHeld, End as EndHeld}
use Rattle.wf_translate.specs.declared.place.PlaceTurn.{PlaceTurn}
use Rattle.wf_translate.specs.declared.place.PlaceTurn.TheVariants.{Module, Ending, Outside}
use Rattle.wf_translate.specs.Readable.{ReadsPlace, IsReadable}
use Rattle.wf_translate.specs.Parts.{BeginsByStep, IsEndingBy, HasNoPart, IsPartRead, IsPartOf}
use Rattle.wf_translate.specs.Chains.{IsChainRead, IsStepRead, IsEndRead, IsPlaceTurn, IsPartTold}
use Rattle.wf_translate.specs.Translated.{IsPlaceRead}
use Rattle.wf_translate.proofs.LoopFacts.{are_steps, own_loop}
use Rattle.wf_translate.proofs.Told.{told_none, told_join, told_step, told_leaving, told_place}
use Rattle.wf_translate.proofs.Readings.{place_more, out_more, place_here, step_by, leaves_by_step, step_is}
use Rattle.wf_translate.proofs.FirstReadings.{back_step, nothing_behind}

module _ (g : Grammar) (loop : Loops) where
  -- nothing is read
  pub start_read : (m : ℕ) (bits : List Bool) (before : List PlaceStep) → m < length g.modules → IsStepRead g loop m bits bits before before m
  start_read m bits before low = record {
    way = [];
    to = refl;
    in_range = low;
    added = [];
    told = told_none g m 0;
    written = sym (append-nil before);
    place = λ a p e h. h;
    out = λ h. h;
    back = λ h. h;
  }

  -- one step after another
  pub step_join : (m k j : ℕ) (old mid new : List Bool) (before between after : List PlaceStep) → IsStepRead g loop m old mid before between k → IsStepRead g loop k mid new between after j → IsStepRead g loop m old new before after j
  step_join m k j old mid new before between after h i = record {
    way = h.way ++ i.way;
    to = module_along-append g m h.way i.way ∙ (ap (λ z. module_along g z i.way) h.to ∙ i.to);
    in_range = i.in_range;
    added = h.added ++ i.added;
    told = told_join g m 0 h.way k 0 h.added i.way j 0 i.added h.told i.told;
    written = i.written ∙ (ap (λ z. z ++ i.added) h.written ∙ append_assoc before h.added i.added);
    place = λ a p e x. subst (λ z. ReadsPlace g loop m old z p e) (sym (append_assoc h.way i.way a)) (h.place (i.way ++ a) p e (i.place a p e x));
    out = λ x. h.out (i.out x);
    back = λ x. i.back (h.back x);
  }

  -- an ending after them
  pub end_join : (m k : ℕ) (old mid : List Bool) (before between after : List PlaceStep) (last : Option ℕ) (al e : ℕ) → IsStepRead g loop m old mid before between k → IsEndRead g loop k mid between after last al e → IsEndRead g loop m old before after last al e
  end_join m k old mid before between after last al e h i = record {
    way = h.way ++ i.way;
    production = i.production;
    reads = h.place i.way i.production e i.reads;
    to = i.to;
    count = i.count;
    added = h.added ++ i.added;
    told = told_join g m 0 h.way k 0 h.added i.way i.to i.count i.added h.told i.told;
    written = i.written ∙ (ap (λ z. z ++ i.added) h.written ∙ append_assoc before h.added i.added);
    last_is = i.last_is;
    alternative_is = i.alternative_is;
  }

  -- so a place is read
  pub place_read : (m : ℕ) (old : List Bool) (after : List PlaceStep) (last : Option ℕ) (al e : ℕ) → IsEndRead g loop m old [] after last al e → IsPlaceRead g loop m old (record { steps = after; chain = last; alternative = al; edge = e })
  place_read m old after last al e h = record {
    way = h.way;
    production = h.production;
    edge = e;
    reads = h.reads;
    is = (λ i. record { steps = h.written i; chain = h.last_is i; alternative = h.alternative_is i; edge = e }) ∙ told_place g m h.way h.to h.count h.added h.production e h.told;
  }

module _ (l : LoopedValue) (f : IsLooped l) where
  abbrev gr : Grammar
  gr = l.accepted.grammar.core

  abbrev lo : Loops
  lo = loop_in l.steps

  -- a chain number and a step
  pub turn_step : (m : ℕ) (old mid new : List Bool) (before between after : List PlaceStep) (k : ℕ) (last : Option ℕ) (s : Step) (j : ℕ) → IsChainRead gr lo m old mid before between k last → BeginsByStep gr lo k mid s new →
      j ≡ target_of gr s → j < length gr.modules → after ≡ between ++ record { chain = last; alternative = alternative_of gr s.production; position = s.position } ∷ [] → IsStepRead gr lo m old new before after j
  turn_step m old mid new before between after k last s j h b is low written =
      let r = h.told in
      let way = r.round ++ s ∷ [] in
      let one = told_step gr k r.count s in
      let to : module_along gr m way ≡ target_of gr s = module_along-append gr m r.round (s ∷ []) in
      let leaves = leaves_by_step gr lo m h.chain r.round k mid s new r.stands r.to b in
      let bits = step_is gr lo h.chain k old mid s new h.is b in
      subst (IsStepRead gr lo m old new before after) (sym is) (record {
        way = way;
        to = to;
        in_range = subst (λ z. z < length gr.modules) is low;
        added = r.added ++ one ∷ [];
        told = told_join gr m 0 r.round k r.count r.added (s ∷ []) (target_of gr s) 0 (one ∷ []) r.told (told_leaving gr k r.count s (λ e. b.leaves (own_loop l f k s e)));
        written = written ∙ (ap (λ z. between ++ record { chain = z; alternative = alternative_of gr s.production; position = s.position } ∷ []) r.last_is ∙
            (ap (λ z. z ++ one ∷ []) r.written ∙ append_assoc before r.added (one ∷ [])));
        place = place_more gr lo m (step_by gr lo h.chain s) way (target_of gr s) old new leaves to bits;
        out = out_more gr lo m (step_by gr lo h.chain s) way (target_of gr s) old new leaves to bits;
        back = back_step gr lo (are_steps l f) m k h.chain r.round old mid s new r.stands r.to r.composite h.is b;
      })

  -- a chain number and an ending
  pub turn_end : (m : ℕ) (old mid : List Bool) (before between after : List PlaceStep) (k : ℕ) (last : Option ℕ) (p e al : ℕ) (last' : Option ℕ) → IsChainRead gr lo m old mid before between k last → IsEndingBy gr k mid p e →
      last' ≡ last → al ≡ alternative_of gr p → after ≡ between → IsEndRead gr lo m old before after last' al e
  turn_end m old mid before between after k last p e al last' h b same alt written =
      let r = h.told in
      record {
        way = r.round;
        production = p;
        reads = place_here gr lo m h.chain r.round k old mid p e r.stands r.to h.is b;
        to = k;
        count = r.count;
        added = r.added;
        told = r.told;
        written = written ∙ r.written;
        last_is = same ∙ r.last_is;
        alternative_is = alt;
      }

  -- a chain number, and then no part
  pub turn_none : (m : ℕ) (old mid : List Bool) (before between : List PlaceStep) (k : ℕ) (last : Option ℕ) → IsChainRead gr lo m old mid before between k last → HasNoPart gr lo k mid → IsReadable gr lo m old → ⊥
  turn_none m old mid before between k last h none =
      let r = h.told in nothing_behind gr lo (are_steps l f) m k h.chain r.round old mid r.stands r.to r.composite h.is none

  -- of a step some bits are read
  pub turn_fewer : (m : ℕ) (old mid new : List Bool) (before between : List PlaceStep) (k : ℕ) (last : Option ℕ) (s : Step) → IsChainRead gr lo m old mid before between k last → BeginsByStep gr lo k mid s new → length new < length old
  turn_fewer m old mid new before between k last s h b =
      let x = gamma (alternative_of gr s.production + 1) in
      let y = gamma (s.position + 1) in
      omega (arith, ap length h.is, length-append (chain_bits h.chain) mid, ap length b.is, length-append x (y ++ new), length-append y new)

  -- what is told of a part
  pub turn_told : (h' : HeldGrammar) → h' ≡ l.accepted.grammar → (m : ℕ) (old mid new : List Bool) (before between after : List PlaceStep) (k : ℕ) (last : Option ℕ) (part : StepOrEnd) (t : PlaceTurn) → IsChainRead gr lo m old mid before between k last →
      IsPartRead gr lo k mid part new → IsPartTold h'.core last part between after t → IsPlaceTurn gr lo m old new before after t
  turn_told h' same m old mid new before between after k last (StepHeld s) (Module j) h b told = (
    turn_step m old mid new before between after k last (step_of s) j.0 h b (subst (λ (z : HeldGrammar). j.0 ≡ target_of z.core (step_of s)) same told.0) (subst (λ (z : HeldGrammar). j.0 < length z.core.modules) same told.1)
        (subst (λ (z : HeldGrammar). after ≡ between ++ record { chain = last; alternative = alternative_of z.core s.production.0; position = s.position.0 } ∷ []) same told.2),
    turn_fewer m old mid new before between k last (step_of s) h b,
  )
  turn_told h' same m old mid new before between after k last (StepHeld s) (Ending x a e) h b told = absurd told
  turn_told h' same m old mid new before between after k last (StepHeld s) Outside h b told = absurd told
  turn_told h' same m old mid new before between after k last (EndHeld p e) (Module j) h b told = absurd told
  turn_told h' same m old mid new before between after k last (EndHeld p e) (Ending x a d) h b told =
      turn_end m old mid before between after k last p.0 d.0 a x h (subst (λ (z : EdgeNo). IsEndingBy gr k mid p.0 z.0) (sym told.2) b) told.0 (subst (λ (z : HeldGrammar). a ≡ alternative_of z.core p.0) same told.1) told.3
  turn_told h' same m old mid new before between after k last (EndHeld p e) Outside h b told = absurd told

  -- a part that is read is one of the module
  pub part_of : (h' : HeldGrammar) → h' ≡ l.accepted.grammar → (k : ℕ) (mid new : List Bool) (part : StepOrEnd) → IsPartRead gr lo k mid part new → IsPartOf h'.core k part
  part_of h' same k mid new (StepHeld s) b = subst (λ (z : HeldGrammar). IsStepOf z.core k (step_of s)) (sym same) b.of_it
  part_of h' same k mid new (EndHeld p e) b = subst (λ (z : HeldGrammar). IsProductionOf z.core p.0 k) (sym same) b.of_it
