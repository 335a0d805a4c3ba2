-- What is told of a specification, member by member, and what a production is, part by part.
use Rattle.std.proofs.Common.{◌≡◌, Bool, true, false, ℕ, List, [], ap, refl, sym, ◌∙◌, codes, true≢false}
use Rattle.std.specs.Prelude.{Option, Some, None, is_some, option_map, option_and_then, unwrap_or}
use Rattle.std.specs.declared.result.Result.{Result}
use Rattle.std.specs.declared.result.Result.TheVariants.{Ok, Err}
use Rattle.serde_json.specs.Data.{Data}
use Rattle.serde_json.specs.Find.{get}
use Rattle.wf_model.specs.declared.parts.Parts.{Parts}
use Rattle.wf_model.specs.declared.parts.ModulePart.{ModulePart}
use Rattle.wf_model.specs.declared.parts.ProdPart.{ProdPart}
use Rattle.wf_model.specs.declared.parts.PosPart.{PosPart}
use Rattle.wf_model.specs.declared.parts.EdgePart.{EdgePart}
use Rattle.wf_model.specs.declared.parts.EntryPart.{EntryPart}
use Rattle.wf_model.specs.declared.parts.ExitPart.{ExitPart}
use Rattle.wf_json.specs.declared.fault.JsonFault.{JsonFault}
use Rattle.wf_json.specs.declared.fault.JsonFault.TheVariants.{NotJson, WrongShape, NoMemory}
use Rattle.wf_json.specs.declared.fault.Member.{Member}
use Rattle.wf_json.specs.declared.fault.Member.TheVariants.{Start, Modules, Productions, DepsList, Versions}
use Rattle.wf_json.specs.Forms.{both, text_form, list_form, member_form, list_member}
use Rattle.wf_json.specs.SpecForm.{module_form, position_form, edge_form, entry_form, exit_form, production_form, deps_form, version_form}
use Rattle.wf_json.specs.SpecRest.{spec_from_deps}
use Rattle.wf_json.specs.Telling.{require, IsSaidBy}

-- a member that has its form, as it is read
pub there : {A B : Type 0} (m : Member) (o read : Option A) (x : A) (next : A → Result B Member) → read ≡ o → read ≡ Some x → require m o next ≡ next x
there m o read x next of is = ap (λ p. require m p next) (sym of ∙ is)

-- one that has not
pub not_there : {A B : Type 0} (m : Member) (o read : Option A) (next : A → Result B Member) → read ≡ o → read ≡ None → require m o next ≡ Err m
not_there m o read next of is = ap (λ p. require m p next) (sym of ∙ is)

-- what a test finds there
pub tested : {A B : Type 0} (m : Member) (o : Option A) (r : Result B Member) (b : Bool) → b ≡ is_some o → b ≡ true → require m o (λ _. r) ≡ r
tested m None r b of is = absurd (true≢false (sym is ∙ of))
tested m (Some x) r b of is = refl

-- and what it does not
pub not_tested : {A B : Type 0} (m : Member) (o : Option A) (r : Result B Member) (b : Bool) → b ≡ is_some o → b ≡ false → require m o (λ _. r) ≡ Err m
not_tested m None r b of is = refl
not_tested m (Some x) r b of is = absurd (true≢false (sym of ∙ is))

-- a result says what is told, where the same is told otherwise of another value
pub said_by : {A : Type 0} (f h : Data → Result A Member) (d e : Data) (r : Result A JsonFault) → f d ≡ h e → IsSaidBy h e r → IsSaidBy f d r
said_by f h d e (Ok x) same said = same ∙ said
said_by f h d e (Err NotJson) same said = said
said_by f h d e (Err (WrongShape m)) same said = same ∙ said
said_by f h d e (Err NoMemory) same said = said

-- what is told from each member on, of what those before it say
abbrev pub from_productions : Data → List ℕ → List ModulePart → Result Parts Member
from_productions d s ms = require Productions (list_member (codes "productions") production_form d) (λ ps. spec_from_deps s ms ps d)

abbrev pub from_modules : Data → List ℕ → Result Parts Member
from_modules d s = require Modules (member_form (codes "modules") (list_form module_form) d) (from_productions d s)

-- of a value in which the members of these names are the same
pub same_list : {A : Type 0} (key : List ℕ) (form : Data → Option A) (d e : Data) → get key e ≡ get key d → list_member key form e ≡ list_member key form d
same_list key form d e same = ap (λ o. unwrap_or (option_map (list_form form) o) (Some [])) same

pub same_from_deps : (s : List ℕ) (ms : List ModulePart) (ps : List ProdPart) (d e : Data) → get (codes "deps") e ≡ get (codes "deps") d → get (codes "versions") e ≡ get (codes "versions") d
    → spec_from_deps s ms ps e ≡ spec_from_deps s ms ps d
same_from_deps s ms ps d e deps versions =
    let ds = same_list (codes "deps") deps_form d e deps in
    let vs = same_list (codes "versions") version_form d e versions in
    λ z. require DepsList (ds z) (λ l. require Versions (vs z) (λ v. Ok (record { start = s; modules = ms; productions = ps; deps = l; versions = v })))

abbrev pub from_start : Data → Result Parts Member
from_start d = require Start (member_form (codes "start") text_form d) (from_modules d)

-- a part that is there, as it is read, and what follows from it
pub with_part : {A B : Type 0} (o read : Option A) (x : A) (next : A → Option B) → read ≡ o → read ≡ Some x → option_and_then next o ≡ next x
with_part o read x next of is = ap (option_and_then next) (sym of ∙ is)

-- and one that is not
pub with_none : {A B : Type 0} (o read : Option A) (next : A → Option B) → read ≡ o → read ≡ None → option_and_then next o ≡ None
with_none o read next of is = ap (option_and_then next) (sym of ∙ is)

-- two parts that follow one another, as both of them
pub by_both : {A B C : Type 0} (a : Option A) (b : Option B) (make : A → B → C) → option_and_then (λ x. option_map (make x) b) a ≡ option_map (λ p. make p.0 p.1) (both a b)
by_both None b make = refl
by_both (Some x) None make = refl
by_both (Some x) (Some y) make = refl

-- a part, and two that follow it
pub by_last : {A B C P : Type 0} (a : Option A) (b : Option B) (c : Option C) (make : A → B → C → P) →
    option_and_then (λ x. option_and_then (λ y. option_map (make x y) c) b) a ≡ option_and_then (λ x. option_map (λ q. make x q.0 q.1) (both b c)) a
by_last None b c make = refl
by_last (Some x) b c make = by_both b c (make x)

-- five parts that follow one another, as the first two and the last three of them
pub by_halves : {A B C D E P : Type 0} (a : Option A) (b : Option B) (c : Option C) (d : Option D) (e : Option E) (make : A → B → C → D → E → P) →
    option_and_then (λ x. option_and_then (λ y. option_and_then (λ z. option_and_then (λ v. option_map (make x y z v) e) d) c) b) a
    ≡ option_and_then (λ p. option_map (λ q. make p.0 p.1 q.0 q.1.0 q.1.1) (both c (both d e))) (both a b)
by_halves None b c d e make = refl
by_halves (Some x) None c d e make = refl
by_halves (Some x) (Some y) None d e make = refl
by_halves (Some x) (Some y) (Some z) None e make = refl
by_halves (Some x) (Some y) (Some z) (Some v) None make = refl
by_halves (Some x) (Some y) (Some z) (Some v) (Some w) make = refl

-- where what is told is by two parts, and the first is not there
pub without_first : {A B P : Type 0} (whole : Option P) (a read : Option A) (b : Option B) (make : A → B → P) → whole ≡ option_and_then (λ x. option_map (make x) b) a → read ≡ a → read ≡ None → None ≡ whole
without_first whole a read b make by of is = sym (by ∙ with_none a read (λ x. option_map (make x) b) of is)

-- and where it is there, whatever the second is
pub by_second : {A B P : Type 0} (whole : Option P) (a read : Option A) (b last : Option B) (make : A → B → P) (x : A) (o : Option B) → whole ≡ option_and_then (λ x. option_map (make x) b) a → read ≡ a → read ≡ Some x → last ≡ b → last ≡ o → option_map (make x) o ≡ whole
by_second whole a read b last make x o by of is of_last last_is = sym (by ∙ with_part a read x (λ x. option_map (make x) b) of is ∙ ap (option_map (make x)) (sym of_last ∙ last_is))

-- a module by its name, and by its lists
abbrev pub ends_in : Data → Option (List (List ℕ) × List (List ℕ))
ends_in d = both (list_member (codes "in") text_form d) (list_member (codes "out") text_form d)

abbrev pub module_of : List ℕ → (List (List ℕ) × List (List ℕ)) → ModulePart
module_of n q = record { name = n; inputs = q.0; outputs = q.1 }

pub module_by : (d : Data) → module_form d ≡ option_and_then (λ n. option_map (module_of n) (ends_in d)) (member_form (codes "name") text_form d)
module_by d = by_last (member_form (codes "name") text_form d) (list_member (codes "in") text_form d) (list_member (codes "out") text_form d) (λ n i o. record { name = n; inputs = i; outputs = o })

-- a production by its head and its body, and by its links
abbrev pub head_in : Data → Option (List ℕ × List PosPart)
head_in d = both (member_form (codes "head") text_form d) (member_form (codes "body") (list_form position_form) d)

abbrev pub links_in : Data → Option (List EdgePart × (List EntryPart × List ExitPart))
links_in d = both (list_member (codes "edges") edge_form d) (both (list_member (codes "in") entry_form d) (list_member (codes "out") exit_form d))

abbrev pub production_of : List ℕ × List PosPart → List EdgePart × (List EntryPart × List ExitPart) → ProdPart
production_of p q = record { head = p.0; body = p.1; edges = q.0; entries = q.1.0; exits = q.1.1 }

pub production_by : (d : Data) → production_form d ≡ option_and_then (λ p. option_map (production_of p) (links_in d)) (head_in d)
production_by d = by_halves (member_form (codes "head") text_form d) (member_form (codes "body") (list_form position_form) d) (list_member (codes "edges") edge_form d) (list_member (codes "in") entry_form d) (list_member (codes "out") exit_form d) (λ h b e i o. record { head = h; body = b; edges = e; entries = i; exits = o })
