-- The ports of the positions of a body, on one side.
use Rattle.std.proofs.Common.{◌≡◌, ◌↔◌, ℕ, ◌<◌, Bool, IsTrue, List, length, get_or, map, sym, ap, subst, ◌∙◌, arith}
use Rattle.std.proofs.lemmas.List.{length-map, get_or-map}
use Rattle.wf_model.specs.declared.body.Position.{Position as PositionHeld}
use Rattle.wf_model.specs.declared.body.Inner.{Inner as InnerHeld}
use Rattle.wf_model.specs.declared.body.Edge.{Edge as EdgeHeld}
use Rattle.wf_model.specs.Lists.{IsIn}
use Rattle.wf_model.specs.Grammar.{Module, Position, Inner, Edge}
use Rattle.wf_model.specs.Meaning.{position_of, inner_of, edge_of}
use Rattle.wf_model.proofs.Lists.{in_append_left, in_map, in_map_from}
use Rattle.wf_spec.specs.Bodies.{modules_at}
use Rattle.wf_form.specs.Bodies.{inputs_in, outputs_in}
use Rattle.wf_form.specs.Ends.{IsPortOf, HaveFew}
use Rattle.wf_spec.specs.Naming.{module_in}
use Rattle.wf_form.specs.Forming.{module_at_place}
use Rattle.wf_spec.specs.FewPorts.{HaveFewPorts}
use Rattle.wf_form.specs.Resolving.{AreOfModules, IsInputIn, IsOutputIn}
use Rattle.wf_form.specs.Wiring.{AreSmall, IsSmall, IsWithin, body_of, head_of, fed_by, used_by, entered_by, left_by}
use Rattle.wf_form.specs.declared.wiring.Wiring.{Wiring}
use Rattle.wf_form.proofs.Bodies.{few_of}
use Rattle.wf_form.proofs.Ends.{position_below}
use Rattle.wf_form.proofs.LinkEnds.{read_as, seen_as, small_heads}
use Rattle.wf_spec.proofs.Tables.{get_in}

-- how many ports of a side each position has
abbrev counts_of : (Module → ℕ) → List Module → List Position → List ℕ
counts_of count modules body = map (λ m. count (module_in modules m)) (modules_at body)

length_counts : (count : Module → ℕ) (modules : List Module) (body : List Position) → length (counts_of count modules body) ≡ length body
length_counts count modules body = length-map (modules_at body) (λ m. count (module_in modules m)) ∙ length-map body (λ (q : Position). q.module_no)

count_there : (count : Module → ℕ) (modules : List Module) (body : List Position) (k : ℕ) → k < length body → get_or (counts_of count modules body) k 0 ≡ count (module_at_place modules body k)
count_there count modules body k inside =
    get_or-map (λ m. count (module_in modules m)) (modules_at body) k (length modules) 0 (subst (λ n. k < n) (sym (length-map body (λ (q : Position). q.module_no))) inside)

-- a port of a position is one of so many
pub port_there : (count : Module → ℕ) (modules : List Module) (body : List Position) (i : Inner) → i.position < length body → i.port < count (module_at_place modules body i.position) → IsPortOf (counts_of count modules body) i
port_there count modules body i inside low = subst (λ n. i.port < n) (sym (count_there count modules body i.position inside)) low

-- and the other way
pub there_port : (count : Module → ℕ) (modules : List Module) (body : List Position) (i : Inner) → IsPortOf (counts_of count modules body) i → (i.position < length body) × (i.port < count (module_at_place modules body i.position))
there_port count modules body i low =
    let inside = subst (λ n. i.position < n) (length_counts count modules body) (position_below (counts_of count modules body) i low) in
    (inside, subst (λ n. i.port < n) (count_there count modules body i.position inside) low)

pub input_port : (modules : List Module) (body : List Position) (i : Inner) → IsInputIn modules body i ↔ IsPortOf (map (inputs_in modules) (modules_at body)) i
input_port modules body i = (
  λ h. port_there (λ m. length m.inputs) modules body i h.position h.port,
  λ h. (let r = there_port (λ m. length m.inputs) modules body i h in record { position = r.0; port = r.1 }),
)

pub output_port : (modules : List Module) (body : List Position) (i : Inner) → IsOutputIn modules body i ↔ IsPortOf (map (outputs_in modules) (modules_at body)) i
output_port modules body i = (
  λ h. port_there (λ m. length m.outputs) modules body i h.position h.port,
  λ h. (let r = there_port (λ m. length m.outputs) modules body i h in record { position = r.0; port = r.1 }),
)

-- the modules of a body are there
pub modules_there : (modules : List Module) (body : List Position) → AreOfModules modules body → (m : ℕ) → IsIn m (modules_at body) → m < length modules
modules_there modules body known m here =
    let r = in_map_from (λ (q : Position). q.module_no) m body here in
    subst (λ n. n < length modules) (sym r.2) (known r.0 r.1)

-- they have few ports
pub few_inputs : (modules : List Module) (body : List Position) → HaveFewPorts modules → AreOfModules modules body → HaveFew (map (inputs_in modules) (modules_at body))
few_inputs modules body few known = few_of (inputs_in modules) (modules_at body) (λ m i. (few (module_in modules m) (get_in m modules _ (modules_there modules body known m i))).inputs)

pub few_outputs : (modules : List Module) (body : List Position) → HaveFewPorts modules → AreOfModules modules body → HaveFew (map (outputs_in modules) (modules_at body))
few_outputs modules body few known = few_of (outputs_in modules) (modules_at body) (λ m i. (few (module_in modules m) (get_in m modules _ (modules_there modules body known m i))).outputs)

-- ports of positions stand small
pub small_ports : (counts : List ℕ) (n : ℕ) (ends : List Inner) → HaveFew counts → length counts ≡ n → ((i : Inner) → IsIn i ends → IsPortOf counts i) → AreSmall n ends
small_ports counts n ends few as_many all i here =
    let below = position_below counts i (all i here) in
    let low = all i here in
    let most = few i.position in
    (subst (λ k. i.position < k) as_many below, omega arith)

-- the ports of one side of a body are met, as they are read
pub body_side : (Port : Inner → Type 0) (counts seen_counts : List ℕ) (ends : List Inner) (seen made : List InnerHeld) (b : Bool) → ((i : Inner) → Port i ↔ IsPortOf counts i)
    → seen_counts ≡ counts → seen ≡ made → map inner_of made ≡ ends
    → (IsTrue b ↔ ((i : Inner) → IsPortOf seen_counts i → IsIn i (map inner_of seen))) → IsTrue b ↔ ((i : Inner) → Port i → IsIn i ends)
body_side Port counts seen_counts ends seen made b same as_many kept is h = (
  λ t i p. seen_as (λ l. IsIn i l) seen made ends kept is (h.0 t i (subst (λ (l : List ℕ). IsPortOf l i) (sym as_many) ((same i).0 p))),
  λ all. h.1 (λ i p. read_as (λ l. IsIn i l) seen made ends kept is (all i ((same i).1 (subst (λ (l : List ℕ). IsPortOf l i) as_many p)))),
)

-- counts, as they are read
pub counts_read : (f : ℕ → ℕ) (seen made : List ℕ) (positions held : List PositionHeld) → seen ≡ made → made ≡ map f (modules_at (map position_of positions)) → positions ≡ held
    → seen ≡ map f (modules_at (map position_of held))
counts_read f seen made positions held kept is same = kept ∙ (is ∙ ap (λ l. map f (modules_at (map position_of l))) same)

-- the ports of a wiring that are there have small numbers
pub within_small : (modules : List Module) (w : Wiring) → HaveFewPorts modules → IsWithin modules w → IsSmall w
within_small modules w few h = record {
  few_positions = h.few_positions;
  fed = small_ports (map (inputs_in modules) (modules_at (body_of w))) (length w.positions.items) (fed_by w) (few_inputs modules (body_of w) few h.of_modules)
      (length_counts (λ m. length m.inputs) modules (body_of w) ∙ length-map w.positions.items position_of) (λ i here. (input_port modules (body_of w) i).0 (h.fed i here));
  used = small_ports (map (outputs_in modules) (modules_at (body_of w))) (length w.positions.items) (used_by w) (few_outputs modules (body_of w) few h.of_modules)
      (length_counts (λ m. length m.outputs) modules (body_of w) ∙ length-map w.positions.items position_of) (λ i here. (output_port modules (body_of w) i).0 (h.used i here));
  entered = small_heads (length (head_of modules w).inputs) (entered_by w) (few (head_of modules w) (get_in w.head.0 modules _ h.head)).inputs h.entered;
  left = small_heads (length (head_of modules w).outputs) (left_by w) (few (head_of modules w) (get_in w.head.0 modules _ h.head)).outputs h.left;
}

-- the ends of edges stand at positions, as they are read
pub from_there : (w : Wiring) (seen : List EdgeHeld) (n : ℕ) → IsSmall w → seen ≡ w.edges.items → n ≡ length w.positions.items → (e : Edge) → IsIn e (map edge_of seen) → e.from.position < n
from_there w seen n small kept as_many e here =
    let r = in_map_from edge_of e seen here in
    let i = in_append_left (inner_of r.0.from) (map (λ (x : EdgeHeld). inner_of x.from) w.edges.items) _ (in_map (λ (x : EdgeHeld). inner_of x.from) r.0 w.edges.items (subst (IsIn r.0) kept r.1)) in
    subst (λ k. e.from.position < k) (sym as_many) (subst (λ (z : Edge). z.from.position < length w.positions.items) (sym r.2) (small.used (inner_of r.0.from) i).0)

pub to_there : (w : Wiring) (seen : List EdgeHeld) (n : ℕ) → IsSmall w → seen ≡ w.edges.items → n ≡ length w.positions.items → (e : Edge) → IsIn e (map edge_of seen) → e.to.position < n
to_there w seen n small kept as_many e here =
    let r = in_map_from edge_of e seen here in
    let i = in_append_left (inner_of r.0.to) (map (λ (x : EdgeHeld). inner_of x.to) w.edges.items) _ (in_map (λ (x : EdgeHeld). inner_of x.to) r.0 w.edges.items (subst (IsIn r.0) kept r.1)) in
    subst (λ k. e.to.position < k) (sym as_many) (subst (λ (z : Edge). z.to.position < length w.positions.items) (sym r.2) (small.fed (inner_of r.0.to) i).0)
