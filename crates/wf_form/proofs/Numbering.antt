-- Links turned into numbers: names that are found, and lists that are made.
use Rattle.std.proofs.Common.{◌≡◌, ℕ, ◌<◌, ◌≤◌, List, [], ◌∷◌, ◌++◌, map, length, get_or, take, sym, ap, ◌∙◌, subst, ⊎_elim, arith}
use Rattle.std.proofs.lemmas.List.{take_all, length-map}
use Rattle.wf_model.specs.declared.body.Position.{Position as PositionHeld}
use Rattle.wf_model.specs.declared.parts.ProdPart.{ProdPart}
use Rattle.wf_model.specs.declared.parts.EdgePart.{EdgePart}
use Rattle.wf_model.specs.declared.parts.EntryPart.{EntryPart}
use Rattle.wf_model.specs.declared.parts.ExitPart.{ExitPart}
use Rattle.wf_model.specs.Lists.{IsIn, IsAt}
use Rattle.wf_model.specs.Grammar.{Module, Position}
use Rattle.wf_model.specs.Meaning.{position_of, edge_of}
use Rattle.wf_form.specs.declared.wiring.Wiring.{Wiring}
use Rattle.wf_spec.specs.Naming.{place_of, names_of}
use Rattle.wf_form.specs.Forming.{body_in, head_in, edge_in}
use Rattle.wf_form.specs.Resolving.{AreOfModules, IsEdgeIn}
use Rattle.wf_form.specs.Rules.{HasKnownPorts}
use Rattle.wf_form.specs.Wiring.{entry_of, exit_of, entry_link, exit_link, IsEntryIn, IsExitIn, IsWiringOf}
use Rattle.wf_model.proofs.Lists.{at_is}
use Rattle.wf_spec.proofs.Listing.{read_in}
use Rattle.wf_form.proofs.Placing.{known_modules}
use Rattle.wf_model.proofs.Positions.{at_push}

-- what holds of each element that a loop has read holds of all, once it has read all
pub all_read : {A : Type 0} (P : A → Type 0) (xs : List A) (i : ℕ) → ((x : A) → IsIn x (take i xs) → P x) → length xs ≤ i → (x : A) → IsIn x xs → P x
all_read {A} P xs i all past = subst (λ (l : List A). (x : A) → IsIn x l → P x) (take_all i xs past) all

-- a number below that of the names is one of a module
pub within_modules : (modules : List Module) (names : List (List ℕ)) (k : ℕ) → names ≡ names_of modules → k < length names → k < length modules
within_modules modules names k is inside = subst (λ n. k < n) (ap length is ∙ length-map modules (λ (m : Module). m.name)) inside

-- the modules of positions, as they are seen in a slice
pub modules_known : (modules : List Module) (names : List (List ℕ)) (body made : List PositionHeld) → names ≡ names_of modules → body ≡ made
    → ((q : PositionHeld) → IsIn q made → q.module.0 < length names) → AreOfModules modules (map position_of body)
modules_known modules names body made is kept all = known_modules modules names body is (subst (λ (l : List PositionHeld). (q : PositionHeld) → IsIn q l → q.module.0 < length names) (sym kept) all)

-- a production whose ports are known has known edges, entries and exits, as they are read
pub edges_known : (modules : List Module) (p : ProdPart) (body : List Position) (edges : List EdgePart) → body ≡ body_in modules p → edges ≡ p.edges
    → HasKnownPorts modules p → (e : EdgePart) → IsIn e edges → IsEdgeIn modules body e
edges_known modules p body edges at is h =
    subst (λ (b : List Position). (e : EdgePart) → IsIn e edges → IsEdgeIn modules b e) (sym at)
    (subst (λ (es : List EdgePart). (e : EdgePart) → IsIn e es → IsEdgeIn modules (body_in modules p) e) (sym is) h.edges)

pub entries_known : (modules : List Module) (p : ProdPart) (body : List Position) (head : Module) (entries : List EntryPart) → body ≡ body_in modules p → head ≡ head_in modules p → entries ≡ p.entries
    → HasKnownPorts modules p → (e : EntryPart) → IsIn e entries → IsEntryIn modules body head e
entries_known modules p body head entries at top is h =
    subst (λ (b : List Position). (e : EntryPart) → IsIn e entries → IsEntryIn modules b head e) (sym at)
    (subst (λ (m : Module). (e : EntryPart) → IsIn e entries → IsEntryIn modules (body_in modules p) m e) (sym top)
    (subst (λ (es : List EntryPart). (e : EntryPart) → IsIn e es → IsEntryIn modules (body_in modules p) (head_in modules p) e) (sym is)
    (λ e i. record { from = h.entries_from e i; to = h.entries_to e i })))

pub exits_known : (modules : List Module) (p : ProdPart) (body : List Position) (head : Module) (exits : List ExitPart) → body ≡ body_in modules p → head ≡ head_in modules p → exits ≡ p.exits
    → HasKnownPorts modules p → (e : ExitPart) → IsIn e exits → IsExitIn modules body head e
exits_known modules p body head exits at top is h =
    subst (λ (b : List Position). (e : ExitPart) → IsIn e exits → IsExitIn modules b head e) (sym at)
    (subst (λ (m : Module). (e : ExitPart) → IsIn e exits → IsExitIn modules (body_in modules p) m e) (sym top)
    (subst (λ (es : List ExitPart). (e : ExitPart) → IsIn e es → IsExitIn modules (body_in modules p) (head_in modules p) e) (sym is)
    (λ e i. record { from = h.exits_from e i; to = h.exits_to e i })))

-- and the other way
pub ports_known : (modules : List Module) (p : ProdPart) (body : List Position) (head : Module) (edges : List EdgePart) (entries : List EntryPart) (exits : List ExitPart)
    → body ≡ body_in modules p → head ≡ head_in modules p → edges ≡ p.edges → entries ≡ p.entries → exits ≡ p.exits
    → ((e : EdgePart) → IsIn e edges → IsEdgeIn modules body e) → ((e : EntryPart) → IsIn e entries → IsEntryIn modules body head e) → ((e : ExitPart) → IsIn e exits → IsExitIn modules body head e)
    → HasKnownPorts modules p
ports_known modules p body head edges entries exits at top edges_are entries_are exits_are all_edges all_entries all_exits = record {
  edges = λ e i. subst (λ (b : List Position). IsEdgeIn modules b e) at (all_edges e (subst (IsIn e) (sym edges_are) i));
  entries_from = λ e i. (entry e i).from;
  entries_to = λ e i. (entry e i).to;
  exits_from = λ e i. (exit e i).from;
  exits_to = λ e i. (exit e i).to;
}
  where
    entry : (e : EntryPart) → IsIn e p.entries → IsEntryIn modules (body_in modules p) (head_in modules p) e
    entry e i =
        subst (λ (b : List Position). IsEntryIn modules b (head_in modules p) e) at
        (subst (λ (m : Module). IsEntryIn modules body m e) top (all_entries e (subst (IsIn e) (sym entries_are) i)))

    exit : (e : ExitPart) → IsIn e p.exits → IsExitIn modules (body_in modules p) (head_in modules p) e
    exit e i =
        subst (λ (b : List Position). IsExitIn modules b (head_in modules p) e) at
        (subst (λ (m : Module). IsExitIn modules body m e) top (all_exits e (subst (IsIn e) (sym exits_are) i)))

-- a wiring that is made list by list
pub wiring_made : (modules : List Module) (p : ProdPart) (w : Wiring) (body made : List PositionHeld) (head : Module) (edges : List EdgePart) (entries : List EntryPart) (exits : List ExitPart)
    → body ≡ made → w.positions.items ≡ made → map position_of body ≡ body_in modules p → head ≡ head_in modules p → edges ≡ p.edges → entries ≡ p.entries → exits ≡ p.exits
    → w.head.0 ≡ place_of (names_of modules) p.head → map edge_of w.edges.items ≡ map (edge_in modules (map position_of body)) edges
    → map entry_of w.entries.items ≡ map (entry_link modules (map position_of body) head) entries → map exit_of w.exits.items ≡ map (exit_link modules (map position_of body) head) exits
    → IsWiringOf modules p w
wiring_made modules p w body made head edges entries exits kept held at top edges_are entries_are exits_are number made_edges made_entries made_exits = record {
  head = number;
  positions = ap (map position_of) (held ∙ sym kept) ∙ at;
  edges = made_edges ∙ ap (λ b. map (edge_in modules b) edges) at ∙ ap (map (edge_in modules (body_in modules p))) edges_are;
  entries = made_entries ∙ ap (λ b. map (entry_link modules b head) entries) at ∙ ap (λ m. map (entry_link modules (body_in modules p) m) entries) top
      ∙ ap (map (entry_link modules (body_in modules p) (head_in modules p))) entries_are;
  exits = made_exits ∙ ap (λ b. map (exit_link modules b head) exits) at ∙ ap (λ m. map (exit_link modules (body_in modules p) m) exits) top
      ∙ ap (map (exit_link modules (body_in modules p) (head_in modules p))) exits_are;
}

-- a relation between what is read and what is made, place by place, with one more on each side
pub matched_more : {A B : Type 0} (R : A → B → Type 0) (read : List A) (old new : List B) (i : ℕ) (a : A) (b : B)
    → length old ≡ i → ((j : ℕ) (x : A) (y : B) → IsAt x j read → IsAt y j old → R x y) → R a b → a ≡ get_or read i a → new ≡ old ++ b ∷ []
    → (j : ℕ) (x : A) (y : B) → IsAt x j read → IsAt y j new → R x y
matched_more R read old new i a b as_many all last was is j x y at_read at_new =
    ⊎_elim (λ at. all j x y at_read at)
    (λ d. subst (λ z. R x z) (sym d.1) (subst (λ z. R z b) (was ∙ at_is x i read a (subst (λ n. IsAt x n read) (d.0 ∙ as_many) at_read)) last))
    (at_push y j old b (subst (IsAt y j) is at_new))

-- an element that is read and of which a name was said
pub name_read : {A : Type 0} (f : A → List ℕ) (names : List (List ℕ)) (xs : List A) (i : ℕ) (x : A) (name : List ℕ) → ((y : A) → IsIn y xs → IsIn (f y) names)
    → x ≡ get_or xs i x → i < length xs → name ≡ f x → IsIn name names
name_read f names xs i x name all was inside is = subst (λ n. IsIn n names) (sym is) (all x (read_in xs i x was inside))

-- what holds at the places before one that is past the end holds at all places
pub holds_to_end : {A : Type 0} (Good : A → Type 0) (xs : List A) (i : ℕ) → ((j : ℕ) → j < i → (x : A) → IsAt x j xs → Good x) → length xs ≤ i
    → (k : ℕ) → k < length xs → (x : A) → IsAt x k xs → Good x
holds_to_end Good xs i all past k below = all k (omega arith)
