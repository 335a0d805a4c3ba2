-- The text of the first modules and productions of a grammar: that of the grammar, where they are all, and that of a version.
use Rattle.std.proofs.Common.{◌≡◌, ℕ, zero, suc, ◌<◌, ◌≤◌, List, [], ◌∷◌, ◌++◌, length, take, get_or, map, refl, sym, ap, ap₂, ◌∙◌, subst, inl, inr, codes, arith}
use Rattle.std.proofs.lemmas.List.{get_or-take, take_all, length-take-le}
use Rattle.std.specs.List.{flat_map, zip}
use Rattle.wf_model.specs.Lists.{IsIn}
use Rattle.wf_model.proofs.Lists.{in_map, in_at, at_is, at_below}
use Rattle.wf_model.specs.Grammar.{Grammar, Module, Position, Inner, Production, module_at, production_at}
use Rattle.wf_model.specs.Items.{dotted}
use Rattle.wf_model.specs.Versions.{version_of, IsVersion}
use Rattle.wf_json.specs.Canonical.{text_in_quotes, list_of, pair_text, position_at, position_text, input_text, output_text, edge_text, entry_text, exit_text, entries_of, exits_of, module_there, module_text, production_text, members_of, canonical_of}
use Rattle.wf_json.specs.Writing.{first_members, first_text}

-- the parts of the members of a grammar
abbrev member_parts : List ℕ → List Module → List ℕ → List ℕ
member_parts start modules productions =
    codes "\"start\":" ++ text_in_quotes start ++ codes ",\"modules\":" ++ list_of module_text modules ++ codes ",\"productions\":" ++ productions

-- with all modules and all productions they are those of the grammar
pub first_members-all : (g : Grammar) → first_members g (length g.modules) (length g.productions) ≡ members_of g
first_members-all g =
    ap₂ (λ ms ps. member_parts (module_at g g.start).name ms (list_of (production_text g) ps)) (take_all (length g.modules) g.modules (omega arith)) (take_all (length g.productions) g.productions (omega arith))

-- and the text is that of the grammar
pub first_text-all : (g : Grammar) → first_text g (length g.modules) (length g.productions) ≡ canonical_of g
first_text-all g = ap (λ t. codes "{" ++ t ++ codes "}") (first_members-all g)

others_same : {A : Type 0} (f h : A → List ℕ) (xs : List A) → ((x : A) → IsIn x xs → f x ≡ h x) → flat_map (λ x. codes "," ++ f x) xs ≡ flat_map (λ x. codes "," ++ h x) xs
others_same f h [] same = refl
others_same f h (x ∷ xs) same = ap₂ (λ (s t : List ℕ). (codes "," ++ s) ++ t) (same x (inl refl)) (others_same f h xs (λ y i. same y (inr i)))

-- lists whose items have the same texts have the same text
list_of-same : {A : Type 0} (f h : A → List ℕ) (xs : List A) → ((x : A) → IsIn x xs → f x ≡ h x) → list_of f xs ≡ list_of h xs
list_of-same f h [] same = refl
list_of-same f h (x ∷ xs) same = ap₂ (λ (s t : List ℕ). codes "[" ++ (s ++ t) ++ codes "]") (same x (inl refl)) (others_same f h xs (λ y i. same y (inr i)))

-- the module of a position of a body whose modules are below m is below m
place_below : (m i : ℕ) (qs : List Position) → 0 < m → ((k : ℕ) → IsIn k (map (λ (q : Position). q.module_no) qs) → k < m) → (get_or qs i (record { name = []; module_no = 0 })).module_no < m
place_below m i [] some h = some
place_below m zero (q ∷ qs) some h = h q.module_no (inl refl)
place_below m (suc i) (q ∷ qs) some h = place_below m i qs some (λ k n. h k (inr n))

-- the parts of the text of a production
abbrev production_parts : List ℕ → List ℕ → List ℕ → List ℕ → List ℕ → List ℕ
production_parts head body edges entries exits =
    codes "{\"head\":" ++ text_in_quotes head ++ codes ",\"body\":" ++ body ++ codes ",\"edges\":" ++ edges ++ codes ",\"in\":" ++ entries ++ codes ",\"out\":" ++ exits ++ codes "}"

-- two grammars with the same first m modules write a production of such modules alike
module _ (g h : Grammar) (m : ℕ) (some : 0 < m) (same : (k : ℕ) → k < m → module_at g k ≡ module_at h k) (r : Production) (headed : r.head < m) (made : (k : ℕ) → IsIn k (map (λ (q : Position). q.module_no) r.positions) → k < m) where
  there_same : (i : ℕ) → module_there g r i ≡ module_there h r i
  there_same i = same _ (place_below m i r.positions some made)

  input_same : (i : Inner) → input_text g r i ≡ input_text h r i
  input_same i = ap (λ (z : Module). text_in_quotes (dotted (position_at r i.position).name (get_or z.inputs i.port []))) (there_same i.position)

  output_same : (i : Inner) → output_text g r i ≡ output_text h r i
  output_same i = ap (λ (z : Module). text_in_quotes (dotted (position_at r i.position).name (get_or z.outputs i.port []))) (there_same i.position)

  body_same : list_of (position_text g) r.positions ≡ list_of (position_text h) r.positions
  body_same =
      list_of-same (position_text g) (position_text h) r.positions
      (λ q i. ap (λ (z : Module). pair_text (text_in_quotes q.name) (text_in_quotes z.name)) (same q.module_no (made q.module_no (in_map (λ (z : Position). z.module_no) q r.positions i))))

  edges_same : list_of (edge_text g r) r.edges ≡ list_of (edge_text h r) r.edges
  edges_same = list_of-same (edge_text g r) (edge_text h r) r.edges (λ e i. ap₂ pair_text (output_same e.from) (input_same e.to))

  entries_same : list_of (entry_text g r) (entries_of g r) ≡ list_of (entry_text h r) (entries_of h r)
  entries_same =
      list_of-same (entry_text g r) (entry_text h r) (entries_of g r) (λ e i. ap (pair_text (text_in_quotes e.0)) (input_same e.1))
      ∙ ap (λ (z : Module). list_of (entry_text h r) (zip z.inputs r.entries)) (same r.head headed)

  exits_same : list_of (exit_text g r) (exits_of g r) ≡ list_of (exit_text h r) (exits_of h r)
  exits_same =
      list_of-same (exit_text g r) (exit_text h r) (exits_of g r) (λ e i. ap (λ t. pair_text t (text_in_quotes e.0)) (output_same e.1))
      ∙ ap (λ (z : Module). list_of (exit_text h r) (zip z.outputs r.exits)) (same r.head headed)

  production_same : production_text g r ≡ production_text h r
  production_same =
      ap₂ (λ (z : Module) b. production_parts z.name b (list_of (edge_text g r) r.edges) (list_of (entry_text g r) (entries_of g r)) (list_of (exit_text g r) (exits_of g r))) (same r.head headed) body_same
      ∙ ap₂ (λ e i. production_parts (module_at h r.head).name (list_of (position_text h) r.positions) e i (list_of (exit_text g r) (exits_of g r))) edges_same entries_same
      ∙ ap (production_parts (module_at h r.head).name (list_of (position_text h) r.positions) (list_of (edge_text h r) r.edges) (list_of (entry_text h r) (entries_of h r))) exits_same

-- one of the first p productions is that of a number below p
first_production : (g : Grammar) (p : ℕ) (r : Production) → p ≤ length g.productions → IsIn r (take p g.productions) → (q : ℕ) × (q < p) × (production_at g q ≡ r)
first_production g p r few there =
    let at = in_at r (take p g.productions) there in
    let none : Production = record { head = 0; positions = []; edges = []; entries = []; exits = [] } in
    let below : at.0 < p = omega (arith, at_below r at.0 (take p g.productions) at.1, length-take-le p g.productions few) in
    (at.0, below, sym (get_or-take p g.productions at.0 none below) ∙ at_is r at.0 (take p g.productions) none at.1)

-- with the modules and the productions of a version it is the text of the version
pub first_text-version : (g : Grammar) (m p : ℕ) → IsVersion g m p → first_text g m p ≡ canonical_of (version_of g m p)
first_text-version g m p is =
    let v = version_of g m p in
    let same : (k : ℕ) → k < m → module_at g k ≡ module_at v k = λ k below. sym (get_or-take m g.modules k (record { name = []; inputs = []; outputs = [] }) below) in
    let start = is.start in
    ap₂ (λ (z : Module) ps. codes "{" ++ member_parts z.name (take m g.modules) ps ++ codes "}") (same g.start is.start)
    (list_of-same (production_text g) (production_text v) (take p g.productions) (λ r there.
    let q = first_production g p r is.productions there in
    production_same g v m (omega arith) same r (subst (λ (z : Production). z.head < m) q.2 (is.heads q.0 q.1))
    (subst (λ (z : Production). (k : ℕ) → IsIn k (map (λ (y : Position). y.module_no) z.positions) → k < m) q.2 (is.bodies q.0 q.1))))
