-- The positions of a body, and the modules that stand there.
use Rattle.std.proofs.Common.{◌≡◌, ℕ, ◌<◌, List, [], map, length, get_or, sym, ap, subst, ◌∙◌, arith}
use Rattle.std.proofs.lemmas.List.{get_or-map, length-map}
use Rattle.wf_model.specs.Grammar.{Grammar, Module, Position, Inner, module_at, production_at, body_of, inputs_of, outputs_of}
use Rattle.wf_model.specs.Meaning.{position_of}
use Rattle.wf_model.specs.Lists.{IsAt}
use Rattle.wf_model.specs.WellFormed.{IsWellFormed, IsInnerInput, IsInnerOutput}
use Rattle.wf_model.specs.declared.body.Position.{Position as PositionHeld}
use Rattle.wf_model.proofs.Lists.{in_map, at_below, at_is}
use Rattle.wf_spec.proofs.Tables.{get_in}
use Rattle.wf_json.specs.Canonical.{position_at, module_there}
use Rattle.wf_json.proofs.Seen.{seen_at, read_at}

-- the module that stands at a position is one of the grammar's
pub module_below : (g : Grammar) (p k : ℕ) → IsWellFormed g → p < length g.productions → k < length (production_at g p).positions → (position_at (production_at g p) k).module_no < length g.modules
module_below g p k formed within inside =
    (formed.bodies p within).modules _ (in_map (λ (q : Position). q.module_no) _ _ (get_in k (production_at g p).positions (record { name = []; module_no = 0 }) inside))

-- a position that is read has the module of the position that is seen
pub module_seen : (g : Grammar) (p k : ℕ) (held : List PositionHeld) (ps : List Position) (q : PositionHeld) → map position_of held ≡ ps → ps ≡ (production_at g p).positions → q ≡ get_or held k q
    → k < length (production_at g p).positions → (position_at (production_at g p) k).module_no ≡ q.module.0
module_seen g p k held ps q seen core was inside = ap (λ (r : Position). r.module_no) (seen_at position_of held _ k q (record { name = []; module_no = 0 }) (seen ∙ core) was inside)

-- it is one of the grammar's
pub read_below : (g : Grammar) (p k : ℕ) (held : List PositionHeld) (ps : List Position) (q : PositionHeld) (ms : List Module) → IsWellFormed g → p < length g.productions → map position_of held ≡ ps → ps ≡ (production_at g p).positions
    → q ≡ get_or held k q → k < length (production_at g p).positions → ms ≡ g.modules → q.module.0 < length ms
read_below g p k held ps q ms formed within seen core was inside modules =
    let below = module_below g p k formed within inside in
    let same = module_seen g p k held ps q seen core was inside in
    omega (arith, ap length modules)

-- what is read at its number is the module that stands there
pub read_module : (g : Grammar) (p k : ℕ) (held : List PositionHeld) (ps : List Position) (q : PositionHeld) (ms : List Module) (m : Module) → IsWellFormed g → p < length g.productions → map position_of held ≡ ps → ps ≡ (production_at g p).positions
    → q ≡ get_or held k q → k < length (production_at g p).positions → ms ≡ g.modules → m ≡ get_or ms q.module.0 m → m ≡ module_there g (production_at g p) k
read_module g p k held ps q ms m formed within seen core was inside modules read =
    let same = module_seen g p k held ps q seen core was inside in
    let below : q.module.0 < length g.modules = omega (arith, module_below g p k formed within inside) in
    read_at ms g.modules q.module.0 m (record { name = []; inputs = []; outputs = [] }) modules read below ∙ ap (module_at g) (sym same)

-- a module of the body stands at a position of it
pub stands_at : (g : Grammar) (p k m : ℕ) → IsAt m k (body_of g p) → (k < length (production_at g p).positions) × (m ≡ (position_at (production_at g p) k).module_no)
stands_at g p k m here =
    let inside : k < length (production_at g p).positions = omega (arith, at_below m k (body_of g p) here, length-map (production_at g p).positions (λ (q : Position). q.module_no)) in
    (inside, sym (at_is m k (body_of g p) 0 here) ∙ get_or-map (λ (q : Position). q.module_no) (production_at g p).positions k (record { name = []; module_no = 0 }) 0 inside)

-- an input of a position is a port of the module that stands there
pub input_there : (g : Grammar) (p : ℕ) (i : Inner) → IsInnerInput g p i → (i.position < length (production_at g p).positions) × (i.port < length (module_there g (production_at g p) i.position).inputs)
input_there g p i here =
    let at = stands_at g p i.position here.0 here.1 in
    (at.0, subst (λ m. i.port < inputs_of g m) at.1 here.2)

-- an output of a position is a port of the module that stands there
pub output_there : (g : Grammar) (p : ℕ) (i : Inner) → IsInnerOutput g p i → (i.position < length (production_at g p).positions) × (i.port < length (module_there g (production_at g p) i.position).outputs)
output_there g p i here =
    let at = stands_at g p i.position here.0 here.1 in
    (at.0, subst (λ m. i.port < outputs_of g m) at.1 here.2)
