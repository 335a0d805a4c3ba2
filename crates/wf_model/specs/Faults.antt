-- Why a run refuses an event: the faults in the order of trial, each with its test.
use Rattle.std.specs.Prelude.{◌≡◌, ◌↔◌, ℕ, Bool, true, false, cond, not, ◌&&◌, ◌||◌, ◌==◌, nat_le, nat_lt, List, [], ◌∷◌, ◌++◌, ◌+◌, length, Option, Some, None, is_some, bytes_eq}
use Rattle.std.specs.List.{list_all}
use Rattle.wf_model.specs.declared.event.Event.{Event}
use Rattle.wf_model.specs.declared.event.Event.TheVariants.{Start, Expand}
use Rattle.wf_model.specs.declared.event.RunFault.{RunFault}
use Rattle.wf_model.specs.declared.event.RunFault.TheVariants.{NotStarted, StartedTwice, UnknownInstance, UnknownProduction, WrongHead, AlreadyExpanded, PositionsWrong, NameBad, NameTwice, TooManyInstances}
use Rattle.wf_model.specs.Lists.{some}
use Rattle.wf_model.specs.Grammar.{Grammar, head_of, body_of}
use Rattle.wf_model.specs.Run.{Instance, made, names_of, expanded_by, IsAccepted}

-- a letter, a digit, `_` or `-`, as a test
abbrev pub is_name_byte : ℕ → Bool
is_name_byte b = (nat_le 97 b && nat_le b 122) || (nat_le 65 b && nat_le b 90) || (nat_le 48 b && nat_le b 57) || (b == 95) || (b == 45)

-- 1 to 64 such bytes
abbrev pub is_short_name : List ℕ → Bool
is_short_name n = nat_lt 0 (length n) && nat_le (length n) 64 && list_all is_name_byte n

-- the list is empty, as a test
abbrev pub is_nil : {A : Type 0} → List A → Bool
is_nil [] = true
is_nil (x ∷ xs) = false

-- the module of the first instance of this name, and 0 where there is none
abbrev pub module_in : List Instance → List ℕ → ℕ
module_in [] n = 0
module_in (i ∷ is) n = cond (bytes_eq n i.name) i.module_no (module_in is n)

-- a name is among these
abbrev pub is_one_of : List (List ℕ) → List ℕ → Bool
is_one_of names n = some (bytes_eq n) names

-- a name of the list is among those taken, or among those before it in the list
abbrev pub some_twice : List (List ℕ) → List (List ℕ) → Bool
some_twice taken [] = false
some_twice taken (n ∷ ns) = is_one_of taken n || some_twice (taken ++ n ∷ []) ns

-- the tests of an event, in the order of trial, after a run from the start module with a limit on its instances; specs/Conditions says in words what each passing test denies
abbrev pub faults_of : Grammar → ℕ → List Event → Event → List (Bool × RunFault)
faults_of g most before (Start r) =
    (not (is_nil before), StartedTwice) ∷
    (not (is_short_name r), NameBad) ∷
    (nat_lt most 1, TooManyInstances) ∷ []
faults_of g most before (Expand i p names) =
    let is = made g g.start before in
    (is_nil before, NotStarted) ∷
    (not (is_one_of (names_of is) i), UnknownInstance) ∷
    (nat_le (length g.productions) p, UnknownProduction) ∷
    (not (module_in is i == head_of g p), WrongHead) ∷
    (is_some (expanded_by before i), AlreadyExpanded) ∷
    (not (length names == length (body_of g p)), PositionsWrong) ∷
    (not (list_all is_short_name names), NameBad) ∷
    (some_twice (names_of is) names, NameTwice) ∷
    (nat_lt most (length is + length names), TooManyInstances) ∷ []

-- the first whose test passes
abbrev pub first_of : List (Bool × RunFault) → Option RunFault
first_of [] = None
first_of (t ∷ ts) = cond t.0 (Some t.1) (first_of ts)

-- why the event is refused, and None where it extends the run
abbrev pub fault_of : Grammar → ℕ → List Event → Event → Option RunFault
fault_of g most before e = first_of (faults_of g most before e)

-- an accepted run takes an event exactly if it has no fault
abbrev pub TakingLaw : Type 0
TakingLaw =
    (g : Grammar) (most : ℕ) (before : List Event) (e : Event) → IsAccepted g most before →
    (fault_of g most before e ≡ None) ↔ IsAccepted g most (before ++ e ∷ [])
