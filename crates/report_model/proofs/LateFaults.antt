-- The faults of an event that is ready, and whose instance has not been expanded: four of the ten are not among them.
use Rattle.std.proofs.Common.{◌≡◌, ◌≢◌, ◌⊎◌, ℕ, Bool, true, false, cond, not, List, [], ◌∷◌, Some, None, is_some, refl, sym, ap, ◌∙◌, inl, inr, true≢false}
use Rattle.wf_model.specs.Grammar.{Grammar}
use Rattle.wf_model.specs.declared.event.Event.{Event}
use Rattle.wf_model.specs.declared.event.Event.TheVariants.{Start, Expand}
use Rattle.wf_model.specs.declared.event.RunFault.{RunFault}
use Rattle.wf_model.specs.declared.event.RunFault.TheVariants.{NotStarted, StartedTwice, UnknownInstance, UnknownProduction, WrongHead, AlreadyExpanded, PositionsWrong, NameBad, NameTwice, TooManyInstances, NoMemory}
use Rattle.wf_model.specs.Run.{made, names_of, expanded_by}
use Rattle.wf_model.specs.Faults.{is_nil, is_one_of, first_of, faults_of, fault_of}
use Rattle.report_model.specs.Intake.{is_ready}

-- such a fault may be told
abbrev is_late : RunFault → Bool
is_late NotStarted = false
is_late StartedTwice = false
is_late UnknownInstance = false
is_late UnknownProduction = true
is_late WrongHead = true
is_late AlreadyExpanded = false
is_late PositionsWrong = true
is_late NameBad = true
is_late NameTwice = true
is_late TooManyInstances = true
is_late NoMemory = true

-- each test fails, or is for such a fault
abbrev AreLate : List (Bool × RunFault) → Type 0
AreLate [] = Unit {0}
AreLate (t ∷ ts) = ((t.0 ≡ false) ⊎ (is_late t.1 ≡ true)) × AreLate ts

first_late : (ts : List (Bool × RunFault)) (f : RunFault) → AreLate ts → first_of ts ≡ Some f → is_late f ≡ true
first_late [] f h e = absurd (cc)
first_late (t ∷ ts) f h e = go (t.0) refl (first_late ts f h.1) h.0 e
  where
    go : (b : Bool) → t.0 ≡ b → (first_of ts ≡ Some f → is_late f ≡ true) → (t.0 ≡ false) ⊎ (is_late t.1 ≡ true) → cond b (Some t.1) (first_of ts) ≡ Some f → is_late f ≡ true
    go false d ih h e = ih e
    go true d ih (inl n) e = absurd (true≢false (sym d ∙ n))
    go true d ih (inr l) e = let s : t.1 ≡ f = cc in ap is_late (sym s) ∙ l

late_here : (g : Grammar) (most : ℕ) (run : List Event) (x : Event) → is_ready g run x ≡ true →
    ((i : List ℕ) (p : ℕ) (names : List (List ℕ)) → x ≡ Expand i p names → expanded_by run i ≡ None) → AreLate (faults_of g most run x)
late_here g most run (Start r) h n = (inl (ap not h), (inr refl, (inr refl, tt)))
late_here g most run (Expand i p names) h n =
    (inl (started run h), (inl (ap not h), (inr refl, (inr refl, (inl (ap is_some (n i p names refl)), (inr refl, (inr refl, (inr refl, (inr refl, tt)))))))))
  where
    started : (run : List Event) → is_one_of (names_of (made g g.start run)) i ≡ true → is_nil run ≡ false
    started [] h = absurd (true≢false (sym h))
    started (y ∷ run) h = refl

-- what is told of a fault that may be told
pub record IsLate (f : RunFault) : Type 0 where
  pub no_start : f ≢ NotStarted
  pub no_second : f ≢ StartedTwice
  pub no_unknown : f ≢ UnknownInstance
  pub no_again : f ≢ AlreadyExpanded

other : (f k : RunFault) → is_late f ≡ true → is_late k ≡ false → f ≢ k
other f k a b e = true≢false (sym a ∙ (ap is_late e ∙ b))

pub late_fault : (g : Grammar) (most : ℕ) (run : List Event) (x : Event) (f : RunFault) → is_ready g run x ≡ true →
    ((i : List ℕ) (p : ℕ) (names : List (List ℕ)) → x ≡ Expand i p names → expanded_by run i ≡ None) → fault_of g most run x ≡ Some f → IsLate f
late_fault g most run x f h n e =
    let l = first_late (faults_of g most run x) f (late_here g most run x h n) e in
    record { no_start = other f NotStarted l refl; no_second = other f StartedTwice l refl; no_unknown = other f UnknownInstance l refl; no_again = other f AlreadyExpanded l refl }
