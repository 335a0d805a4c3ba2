-- How a command goes on with an automaton that AUTO describes: the lifted view is refused in its place, or LABELS and QUERIES are taken.
use Rattle.std.proofs.Common.{ℕ, Bool, List, [], ◌∷◌, Option, None, refl, ap, ◌∙◌, inl, inr, arith}
use Rattle.std.specs.Prelude.{codes}
use Rattle.wf_model.specs.View.{View}
use Rattle.wf_spec.specs.Held.{HeldGrammar}
use Rattle.words_model.specs.Automata.{Automaton}
use Rattle.wf_automaton.specs.Rules.{TellsAutomaton}
use Rattle.wf_automaton.proofs.OneAutomaton.{one_automaton, no_auto_fault}
use Rattle.wf_io.specs.Told.{File}
use Rattle.wf_io.specs.Readings.{Reading}
use Rattle.wf_message.specs.Endings.{End, Done, Usage, Refused, ReadFault, WriteFault, NoMemory}
use Rattle.wf_stage.specs.Ends.{IsOfOutcome}
use Rattle.wf_stage.specs.Stages.{Stage, Declines, OfWhole, too_long, broken, refused, goes_on}
use Rattle.wf_stage.specs.Promises.{HasRead, Obeys}
use Rattle.wf_stage.proofs.Ends.{begins_nothing, nothing_put, ends_alike}
use Rattle.wf_stage.proofs.Stages.{declines_refused, refused_cause}
use Rattle.wf_stage.proofs.Obeying.{cause_of_reading, never_writes, none_read, obeys_on}
use Rattle.cmd_words.specs.AutoTold.{auto_kind, IsSafeLifted, RefusesAutomaton, RefusesLifted}
use Rattle.cmd_words.specs.Does.{AnswersLabels, AnswersAuto, AnswersLifted, unsafe, answered}

module _ (h : HeldGrammar) (u : View) (labels queries : File) where
  -- an automaton whose lifted view is safe is answered by
  answered_to : (a : Automaton) → IsSafeLifted h.core u a → (e : End) (t : List ℕ) → AnswersLabels h u a labels queries e t → AnswersLifted h u a labels queries e t
  answered_to a safe e t n = answered safe n

  answered_from : (a : Automaton) → IsSafeLifted h.core u a → (e : End) (t : List ℕ) → AnswersLifted h u a labels queries e t → AnswersLabels h u a labels queries e t
  answered_from a safe e t (unsafe fault r x y) = absurd (r.0 safe)
  answered_from a safe e t (answered s n) = n

  -- the end of one that is declined
  declined_so : (a : Automaton) (e : End) → Declines (codes "auto") (OfWhole (RefusesLifted h.core u) a) e → IsOfOutcome e → AnswersLifted h u a labels queries e []
  declined_so a Done d o = absurd d
  declined_so a Usage d o = absurd d
  declined_so a (Refused word line fault) (is, (whole, r)) o = unsafe fault r (ap (λ w. Refused w line fault) is ∙ ap (λ l. Refused (codes "auto") l fault) whole) refl
  declined_so a (ReadFault word) d o = absurd d
  declined_so a WriteFault d o = absurd d
  declined_so a NoMemory d o = absurd (o.1 refl)

  module _ (auto : File) where
    -- AUTO as it is read, and then as its automaton is lifted, is AUTO under a view
    abbrev InTurn : End → List ℕ → Type 0
    InTurn = Stage auto_kind [] auto (TellsAutomaton h.core) (OfWhole (RefusesAutomaton h.core)) (λ a. AnswersLifted h u a labels queries)

    in_turn_to : (e : End) (t : List ℕ) → InTurn e t → AnswersAuto h u auto labels queries e t
    in_turn_to e t (too_long l x y) = too_long l x y
    in_turn_to e t (broken l b x y) = broken l b x y
    in_turn_to e t (refused l b line fault r x y) = refused l b line fault (r.0, inl r.1) x y
    in_turn_to e t (goes_on l b a tells (unsafe fault r x y)) = refused l b None fault (refl, inr (a, tells, r)) x y
    in_turn_to e t (goes_on l b a tells (answered safe n)) = goes_on l b a (record { automaton = tells; safe = safe }) n

    in_turn_from : (e : End) (t : List ℕ) → AnswersAuto h u auto labels queries e t → InTurn e t
    in_turn_from e t (too_long l x y) = too_long l x y
    in_turn_from e t (broken l b x y) = broken l b x y
    in_turn_from e t (refused l b line fault (whole, inl r) x y) = refused l b line fault (whole, r) x y
    in_turn_from e t (refused l b line fault (whole, inr (a, tells, r)) x y) = goes_on l b a tells (unsafe fault r (x ∙ ap (λ n. Refused (codes "auto") n fault) whole) y)
    in_turn_from e t (goes_on l b a told n) = goes_on l b a told.automaton (answered told.safe n)

module _ (h : HeldGrammar) (u : View) (a : Automaton) {S T : Type 0} {files : S → Option (List ℕ → File)} {readings : S → Option (List Reading)} {faults : S → ℕ} {last : S → Bool} {bytes : T → Option (List ℕ)} {counts : T → ℕ} {out_last : T → Bool} {names : List (List ℕ)} {labels queries : List ℕ} where
  -- what declines the lifted view ends the command
  pub lifted_stops : (s : S) (o : T) (e : End) → Declines (codes "auto") (OfWhole (RefusesLifted h.core u) a) e → Obeys files readings faults last bytes counts out_last names [] (λ f. AnswersLifted h u a (f labels) (f queries)) s s o o e
  lifted_stops s o e d =
      let cause = refused_cause (faults s) (faults s) (last s) e refl (declines_refused (codes "auto") (OfWhole (RefusesLifted h.core u) a) e d) in
      record {
        ends = λ f told. nothing_put [] _ (begins_nothing _) e (bytes o) (bytes o) (never_writes (faults s) (faults s) (last s) e cause) refl (declined_so h u (f labels) (f queries) a e d);
        cause = cause_of_reading (faults s) (faults s) (last s) (counts o) (out_last o) e cause;
        same = refl;
        in_turn = none_read names (readings s);
        later = omega arith;
        put_later = omega arith;
      }

  -- one that is safe is answered by
  pub lifted_goes : (s t : S) (o p : T) (e : End) → IsSafeLifted h.core u a → Obeys files readings faults last bytes counts out_last names [] (λ f. AnswersLabels h u a (f labels) (f queries)) s t o p e → Obeys files readings faults last bytes counts out_last names [] (λ f. AnswersLifted h u a (f labels) (f queries)) s t o p e
  lifted_goes s t o p e safe r = record {
    ends = λ f told. ends_alike [] _ _ (answered_to h u (f labels) (f queries) a safe) (answered_from h u (f labels) (f queries) a safe) e (bytes o) (bytes p) (r.ends f told);
    cause = r.cause;
    same = r.same;
    in_turn = r.in_turn;
    later = r.later;
    put_later = r.put_later;
  }

  -- behind AUTO, which describes it
  pub auto_taken : {name : List ℕ} (s t v : S) (o p : T) (e : End) → HasRead files readings faults auto_kind name (TellsAutomaton h.core) s t a → Obeys files readings faults last bytes counts out_last names [] (λ f. AnswersLifted h u a (f labels) (f queries)) t v o p e → Obeys files readings faults last bytes counts out_last (name ∷ names) [] (λ f. AnswersAuto h u (f name) (f labels) (f queries)) s v o p e
  auto_taken {name = name} s t v o p e read rest =
      let r = obeys_on [] (λ f b. AnswersLifted h u b (f labels) (f queries)) (λ b c d x y. one_automaton b h.core d c y x) (λ b c line fault x y. no_auto_fault b h.core c y.1.0 x y.1.1) s t v o p e a read rest in
      record {
        ends = λ f told. ends_alike [] _ _ (in_turn_to h u (f labels) (f queries) (f name)) (in_turn_from h u (f labels) (f queries) (f name)) e (bytes o) (bytes p) (r.ends f told);
        cause = r.cause;
        same = r.same;
        in_turn = r.in_turn;
        later = r.later;
        put_later = r.put_later;
      }
