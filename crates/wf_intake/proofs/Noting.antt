-- The lines after an event is applied.
use Rattle.std.proofs.Common.{◌≡◌, ℕ, ◌+◌, Bool, true, false, cond, List, [], ◌∷◌, ◌++◌, length, Option, None, Some, option_map, refl, sym, ap, ◌∙◌, subst, arith, true≢false}
use Rattle.std.specs.Prelude.{position, replicate, bytes_eq}
use Rattle.std.proofs.lemmas.List.{map-append, length-append, length-replicate}
use Rattle.wf_model.specs.Grammar.{Grammar}
use Rattle.wf_model.specs.declared.event.Event.{Event}
use Rattle.wf_model.specs.declared.event.Event.TheVariants.{Start, Expand}
use Rattle.wf_model.specs.Run.{Instance, Expanded, made, made_by, names_of, expanded_by}
use Rattle.wf_model.specs.Faults.{is_nil, fault_of}
use Rattle.wf_model.proofs.Lists.{same_bytes, bytes_same}
use Rattle.wf_model.proofs.Runs.{made_more, expansion_later, expansion_other}
use Rattle.report_model.specs.Reports.{subject_of}
use Rattle.report_model.specs.Intake.{is_ready}
use Rattle.wf_intake.specs.declared.reported.ReportedBy.{ReportedBy}
use Rattle.wf_intake.specs.Reported.{ReportedSeen, expansion_at, expanded_at, noted}
use Rattle.wf_intake.specs.Applied.{number_in, number_of, expansion_of, started_by, expansion_by, applied_to, BeginsWell, FitsRun}
use Rattle.wf_intake.proofs.Numbers.{has_number, expansion_more, expansion_itself, expansion_other_one, length_expanded}
use Rattle.wf_intake.proofs.Marking.{made_names, not_expanded}

begins_more : (run : List Event) (e : Event) → BeginsWell run → is_nil run ≡ false → BeginsWell (run ++ e ∷ [])
begins_more [] e w n = absurd (true≢false n)
begins_more (Start r ∷ run) e w n = tt
begins_more (Expand i p names ∷ run) e w n = w

started_more : (line : ℕ) (run : List Event) (e : Event) → is_nil run ≡ false → started_by line (run ++ e ∷ []) ≡ started_by line run
started_more line [] e n = absurd (true≢false n)
started_more line (x ∷ run) e n = refl

-- an expand event is ready only after others
pub after_others : (g : Grammar) (run : List Event) (i : List ℕ) (p : ℕ) (names : List (List ℕ)) → is_ready g run (Expand i p names) ≡ true → is_nil run ≡ false
after_others g [] i p names h = absurd (true≢false (sym h))
after_others g (x ∷ run) i p names h = refl

-- the lines are those of the run with the event, the report on its subject is that of the line, and those on others are the same
pub record IsNoted (g : Grammar) (run : List Event) (seen : ReportedSeen) (line : ℕ) (e : Event) (next : ReportedSeen) : Type 0 where
  pub fits : FitsRun g (run ++ e ∷ []) next
  pub itself : (o : Option (List ℕ)) → o ≡ subject_of e → applied_to g (run ++ e ∷ []) next o ≡ Some (record { line = line; event = e })
  pub others : (o : Option (List ℕ)) → (o ≡ subject_of e → ⊥) → applied_to g (run ++ e ∷ []) next o ≡ applied_to g run seen o

start_noted : (g : Grammar) (run : List Event) (seen : ReportedSeen) (fits : FitsRun g run seen) (line : ℕ) (r : List ℕ) → is_ready g run (Start r) ≡ true → IsNoted g run seen line (Start r) (noted seen None line (Start r))
start_noted g (x ∷ run) seen fits line r h = absurd (true≢false (sym h))
start_noted g [] seen fits line r h = record {
  fits = record {
    begins = tt;
    many = let m = fits.many in let l : length (seen.expansions ++ replicate 1 None) ≡ length seen.expansions + 1 = length-append seen.expansions (None ∷ []) in omega (arith, m, l);
    productions = λ i. ap (option_map (λ (by : ReportedBy). by.production)) (expansion_more (bytes_eq i) [] (r ∷ []) seen.expansions 1 fits.many);
  };
  itself = λ o e. ap (applied_to g (Start r ∷ []) (noted seen None line (Start r))) e;
  others = λ o n. other o n;
}
  where
    other : (o : Option (List ℕ)) → (o ≡ None → ⊥) → applied_to g (Start r ∷ []) (noted seen None line (Start r)) o ≡ applied_to g [] seen o
    other None n = absurd (n refl)
    other (Some i) n = refl

module _ (g : Grammar) (most : ℕ) (run : List Event) (seen : ReportedSeen) (fits : FitsRun g run seen) (line : ℕ) (i : List ℕ) (p : ℕ) (names : List (List ℕ)) (ready : is_ready g run (Expand i p names) ≡ true) (extends : fault_of g most run (Expand i p names) ≡ None) where
  abbrev e : Event
  e = Expand i p names

  abbrev by : ReportedBy
  by = record { line = line; production = p }

  abbrev here : List (List ℕ)
  here = names_of (made g g.start run)

  abbrev next : ReportedSeen
  next = noted seen (number_in g run i) line e

  abbrev slots : List (Option ReportedBy)
  slots = expanded_at seen.expansions (number_in g run i) by

  more_names : names_of (made g g.start (run ++ e ∷ [])) ≡ here ++ names
  more_names =
      ap names_of (made_more g g.start run e) ∙
      (map-append (λ (j : Instance). j.name) (made g g.start run) (made_by g g.start e) ∙ ap (λ l. here ++ l) (made_names g most run e extends))

  many : length slots ≡ length here
  many = length_expanded seen.expansions (number_in g run i) by ∙ fits.many

  -- each instance is as it is before the new ones are added
  each : (j : List ℕ) → expansion_of g (run ++ e ∷ []) next j ≡ expansion_at slots (number_in g run j)
  each j = ap (λ l. expansion_at next.expansions (position (bytes_eq j) l)) more_names ∙ expansion_more (bytes_eq j) here names slots (length names) many

  itself : expansion_of g (run ++ e ∷ []) next i ≡ Some by
  itself = each i ∙ expansion_itself here seen.expansions i by fits.many (has_number (bytes_eq i) here ∙ ready)

  expanded : expanded_by (run ++ e ∷ []) i ≡ Some (record { production = p; names = names })
  expanded = expansion_later run (e ∷ []) i (not_expanded g most run i p names extends) ∙ ap (λ t. cond {A = Option Expanded} t (Some (record { production = p; names = names })) None) (bytes_same i i refl)

  other : (j : List ℕ) → (i ≡ j → ⊥) → expansion_of g (run ++ e ∷ []) next j ≡ expansion_of g run seen j
  other j n = each j ∙ expansion_other_one here seen.expansions i j by n

  expand_noted : IsNoted g run seen line e next
  expand_noted = record {
    fits = record {
      begins = begins_more run e fits.begins (after_others g run i p names ready);
      many = let l : length (slots ++ replicate (length names) None) ≡ length slots + length names = length-append slots (replicate (length names) None) ∙ ap (λ k. length slots + k) (length-replicate (length names) None) in
          let m : length here + length names ≡ length (here ++ names) = sym (length-append here names) in
          l ∙ (ap (λ k. k + length names) many ∙ (m ∙ ap length (sym more_names)));
      productions = λ j. by_name j (bytes_eq i j) refl;
    };
    itself = λ o q. ap (applied_to g (run ++ e ∷ []) next) q ∙ (ap (λ x. expansion_by i x (expansion_of g (run ++ e ∷ []) next i)) expanded ∙ ap (expansion_by i (Some (record { production = p; names = names }))) itself);
    others = others;
  }
    where
      by_name : (j : List ℕ) (b : Bool) → bytes_eq i j ≡ b → option_map (λ (by : ReportedBy). by.production) (expansion_of g (run ++ e ∷ []) next j) ≡ option_map (λ (x : Expanded). x.production) (expanded_by (run ++ e ∷ []) j)
      by_name j true q =
          subst (λ k. option_map (λ (by : ReportedBy). by.production) (expansion_of g (run ++ e ∷ []) next k) ≡ option_map (λ (x : Expanded). x.production) (expanded_by (run ++ e ∷ []) k)) (same_bytes i j q)
          (ap (option_map (λ (by : ReportedBy). by.production)) itself ∙ sym (ap (option_map (λ (x : Expanded). x.production)) expanded))
      by_name j false q =
          let n : i ≡ j → ⊥ = λ z. true≢false (sym (bytes_same i j z) ∙ q) in
          ap (option_map (λ (by : ReportedBy). by.production)) (other j n) ∙ (fits.productions j ∙ sym (ap (option_map (λ (x : Expanded). x.production)) (expansion_other run i p names j n)))

      others : (o : Option (List ℕ)) → (o ≡ Some i → ⊥) → applied_to g (run ++ e ∷ []) next o ≡ applied_to g run seen o
      others None n = started_more seen.start run e (after_others g run i p names ready)
      others (Some j) n =
          let m : i ≡ j → ⊥ = λ z. n (ap Some (sym z)) in
          ap (λ x. expansion_by j x (expansion_of g (run ++ e ∷ []) next j)) (expansion_other run i p names j m) ∙ ap (expansion_by j (expanded_by run j)) (other j m)

-- an event is applied, and its line is noted
pub event_noted : (g : Grammar) (most : ℕ) (run : List Event) (seen : ReportedSeen) → FitsRun g run seen → (number : Option ℕ) (line : ℕ) (e : Event) → number ≡ number_of g run e → is_ready g run e ≡ true → fault_of g most run e ≡ None →
    IsNoted g run seen line e (noted seen number line e)
event_noted g most run seen fits number line (Start r) q ready extends = start_noted g run seen fits line r ready
event_noted g most run seen fits number line (Expand i p names) q ready extends = subst (λ n. IsNoted g run seen line (Expand i p names) (noted seen n line (Expand i p names))) (sym q) (expand_noted g most run seen fits line i p names ready extends)
