-- How the promises of the families make those of the program.
use Rattle.std.proofs.Common.{◌≡◌, ◌≤◌, ℕ, Bool, List, [], Option, Some, None, refl, sym, subst, ◌∙◌, inl, inr, arith}
use Rattle.wf_io.specs.Told.{File}
use Rattle.wf_io.specs.Readings.{Reading, AreReadInTurn}
use Rattle.wf_io.proofs.Appending.{appended_none, begun_none, begun_same}
use Rattle.wf_message.specs.declared.status.Status.{Status}
use Rattle.wf_message.specs.declared.status.Status.TheVariants.{Usage as IsUsage, NoMemory as IsNoMemory}
use Rattle.wf_message.specs.declared.ending.Ending.{Ending}
use Rattle.wf_message.specs.declared.ending.Ending.TheVariants.{Done as HasDone, Usage as HasUsage, Stopped}
use Rattle.wf_message.specs.declared.ending.Stop.TheVariants.{Refused as StopsRefused, ReadFault as StopsReading, WriteFault as StopsWriting, NoMemory as StopsWanting}
use Rattle.wf_message.specs.Puts.{IsPut}
use Rattle.wf_message.specs.Endings.{End, Done, Usage, Refused, ReadFault, WriteFault, NoMemory, end_by, status_of}
use Rattle.wf_stage.specs.Causes.{IsCause}
use Rattle.wf_stage.specs.Ends.{EndsBehind}
use Rattle.wf_top.specs.Outcome.{Command, Does, files_of, PutsNothingWanting}
use Rattle.wf_top.specs.Families.{families}
use Rattle.wf_top.specs.Counts.{HasCounts}
use Rattle.wf_top.specs.Meets.{EndsBy}

usage_is_no_fault : Usage ≡ WriteFault → ⊥
usage_is_no_fault e = (cc)

module _ (files : List ℕ → File) (ending : End) (old new : Option (List ℕ)) where
  -- words of no command: the program says how it is called, and nothing is put
  usage_ends : ending ≡ Usage → new ≡ old → EndsBy (Does files None) ending old new
  usage_ends is same = record {
    whole = λ o. ([], (is, refl), appended_none old new same);
    begun = λ e text h. begun_none text old new same;
    due = λ w e text h. absurd (usage_is_no_fault (sym is ∙ w));
  }

  -- a command
  command_ends : (c : families.Command) → EndsBehind [] (families.Does files c) ending old new → EndsBy (Does files (Some c)) ending old new
  command_ends c ends = record {
    whole = ends.whole;
    begun = λ e text h. let b = ends.begun e text h in begun_same b.0 text old new (sym b.1) b.2;
    due = ends.due;
  }

  -- both
  pub ends_as_obeyed : (c : Option Command) → (c ≡ None → (ending ≡ Usage) × (new ≡ old)) → ((d : Command) → c ≡ Some d → EndsBehind [] (families.Does files d) ending old new) → EndsBy (Does files c) ending old new
  ends_as_obeyed None none some = let n = none refl in usage_ends n.0 n.1
  ends_as_obeyed (Some d) none some = command_ends d (some d refl)

-- what is so where the words are no command, and where they are one, is so
pub either_way : {P : Type 0} (c : Option Command) → (c ≡ None → P) → ((d : Command) → c ≡ Some d → P) → P
either_way None none some = none refl
either_way (Some d) none some = some d refl

-- the files are read in turn
pub read_as_obeyed : (c : Option Command) (old new : Option (List Reading)) → (c ≡ None → new ≡ old) → ((d : Command) → c ≡ Some d → AreReadInTurn (families.files_of d) old new) → AreReadInTurn (files_of c) old new
read_as_obeyed None old new none some = none refl
read_as_obeyed (Some d) old new none some = some d refl

-- a command that puts nothing where memory is wanting is one
pub put_as_obeyed : {P : Type 0} (c : Option Command) → ((d : Command) → c ≡ Some d → families.PutsNothingWanting d → P) → PutsNothingWanting c → P
put_as_obeyed None some puts = absurd puts
put_as_obeyed (Some d) some puts = some d refl puts

-- the counts are as the status tells where the end has its cause
pub counts_of_cause : (before after : ℕ) (last : Bool) (out_before out_after : ℕ) (out_last : Bool) (e : End) → IsCause before after last out_before out_after out_last e → HasCounts before after last out_before out_after out_last (status_of e)
counts_of_cause before after last out_before out_after out_last Done h = h
counts_of_cause before after last out_before out_after out_last Usage h = absurd h
counts_of_cause before after last out_before out_after out_last (Refused word line fault) h = h
counts_of_cause before after last out_before out_after out_last (ReadFault word) h = h
counts_of_cause before after last out_before out_after out_last WriteFault h = (h.1, h.0)
counts_of_cause before after last out_before out_after out_last NoMemory h = h

-- so where they are as they were, at the end that says how the program is called
pub counts_of_usage : (before after : ℕ) (last : Bool) (out_before out_after : ℕ) (out_last : Bool) (e : End) → e ≡ Usage → after ≡ before → out_after ≡ out_before → HasCounts before after last out_before out_after out_last (status_of e)
counts_of_usage before after last out_before out_after out_last e is same put_same = subst (λ x. HasCounts before after last out_before out_after out_last (status_of x)) (sym is) (same, put_same)

-- so at a status that is the same
pub counts_at : (before after : ℕ) (last : Bool) (out_before out_after : ℕ) (out_last : Bool) (s : Status) → HasCounts before after last out_before out_after out_last s → (t : Status) → s ≡ t → HasCounts before after last out_before out_after out_last t
counts_at before after last out_before out_after out_last s h t is = subst (HasCounts before after last out_before out_after out_last) is h

-- the count of err does not fall
pub told_no_less : (line : List ℕ) (old new : Option (List ℕ)) (before after : ℕ) (at_last : Bool) → IsPut line old new before after at_last → before ≤ after
told_no_less line old new before after at_last (inl whole) = let e = whole.1 in omega (arith, e)
told_no_less line old new before after at_last (inr part) = part.later

-- the status of an ending is that of use exactly where the ending is
pub usage_told : (e : Ending) → status_of (end_by e) ≡ IsUsage → e ≡ HasUsage
usage_told HasDone h = absurd (cc)
usage_told HasUsage h = refl
usage_told (Stopped (StopsRefused place line refusal)) h = absurd (cc)
usage_told (Stopped (StopsReading place)) h = absurd (cc)
usage_told (Stopped StopsWriting) h = absurd (cc)
usage_told (Stopped StopsWanting) h = absurd (cc)

-- it is that of want of memory only where this is the end
pub wanting_told : (e : End) → status_of e ≡ IsNoMemory → e ≡ NoMemory
wanting_told Done h = absurd (cc)
wanting_told Usage h = absurd (cc)
wanting_told (Refused word line fault) h = absurd (cc)
wanting_told (ReadFault word) h = absurd (cc)
wanting_told WriteFault h = absurd (cc)
wanting_told NoMemory h = refl
