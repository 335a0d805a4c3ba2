-- The address that is looked for leads to the instance, and stays.
use Rattle.std.proofs.Common.{◌≡◌, ◌≢◌, ℕ, cond, List, [], ◌∷◌, ◌++◌, get_or, Option, Some, None, refl, sym, ap, ◌∙◌, subst, inl, inr, ⊎_elim, append_assoc, append-nil}
use Rattle.wf_model.specs.Lists.{IsIn}
use Rattle.wf_model.specs.Grammar.{Grammar}
use Rattle.wf_model.specs.declared.event.Event.{Event}
use Rattle.wf_model.specs.declared.event.Event.TheVariants.{Start, Expand}
use Rattle.wf_model.specs.Run.{Instance, Expanded, made, names_of, expanded_by, Extends, AllExtend, IsRun, root_of}
use Rattle.wf_model.specs.Reach.{Step, module_along}
use Rattle.wf_model.specs.Routes.{IsAddress}
use Rattle.wf_model.proofs.Lists.{bytes_same, at_is, at_below, in_at}
use Rattle.wf_model.proofs.Runs.{name_kept, name_in, name_cases, expansion_later, AllExtend-append}
use Rattle.wf_model.proofs.Differ.{one_of_name}
use Rattle.wf_model.proofs.Taking.{run_differs}
use Rattle.wf_model.proofs.Expanding.{one_expansion}
use Rattle.wf_model.proofs.Open.{root_kept}
use Rattle.wf_laws.proofs.Routes.{address_kept, address_more}
use Rattle.wf_laws.proofs.Agreeing.{route_law}
use Rattle.label_model.specs.RunLabels.{address_in}
use Rattle.label_model.specs.RunLaws.{InstanceLaw}
use Rattle.label_model.proofs.LookingBack.{address_start, address_old, address_child, address_short}

-- an address leads to one instance
pub address_leads : (events : List Event) (a : List Step) (n c d : List ℕ) → IsAddress events n a c → IsAddress events n a d → c ≡ d
address_leads events [] n c d h k = sym h ∙ k
address_leads events (s ∷ a) n c d h k =
    let w = one_expansion (expanded_by events n) (record { production = s.production; names = h.0 }) (record { production = s.production; names = k.0 }) h.1 k.1 in
    let same : h.0 ≡ k.0 = ap (λ (z : Expanded). z.names) w in
    address_leads events a (get_or h.0 s.position []) c d h.3 (subst (λ z. IsAddress events (get_or z s.position []) a d) (sym same) k.3)

-- where an instance is made, there are events
started : (g : Grammar) (m : ℕ) (b : List Event) (i : Instance) → IsIn i (made g m b) → b ≢ []
started g m [] i h e = absurd h
started g m (e ∷ b) i h q = absurd (cc)

-- each name that is made has an address that leads to it
abbrev AreKnown : Grammar → ℕ → List Event → Type 0
AreKnown g m b = (n : List ℕ) → IsIn n (names_of (made g m b)) → IsAddress b (root_of b) (address_in b n) n

known_more : (g : Grammar) (m : ℕ) (b : List Event) (e : Event) → AreKnown g m b → Extends g m b e → AreKnown g m (b ++ e ∷ [])
unfolding address_in
known_more g m b (Start r) known x n h =
    subst (λ z. IsAddress (z ++ Start r ∷ []) (root_of (z ++ Start r ∷ [])) (address_in (z ++ Start r ∷ []) n) n) (sym x.0)
    (at_root (subst (λ z. IsIn n (names_of (made g m (z ++ Start r ∷ [])))) x.0 h))
  where
    at_root : IsIn n (r ∷ []) → IsAddress (Start r ∷ []) r (address_in (Start r ∷ []) n) n
    at_root (inl q) = sym q
    at_root (inr q) = absurd q
known_more g m b (Expand i p names) known can n h = ⊎_elim old new (name_cases g m b i p names n h)
  where
    told : expanded_by (b ++ Expand i p names ∷ []) i ≡ Some (record { production = p; names = names })
    told = expansion_later b (Expand i p names ∷ []) i can.open_end ∙ ap (λ t. cond {A = Option Expanded} t (Some (record { production = p; names = names })) None) (bytes_same i i refl)

    root : root_of (b ++ Expand i p names ∷ []) ≡ root_of b
    root = root_kept b (Expand i p names ∷ []) (started g m b _ can.stands)

    old : IsIn n (names_of (made g m b)) → IsAddress (b ++ Expand i p names ∷ []) (root_of (b ++ Expand i p names ∷ [])) (address_in (b ++ Expand i p names ∷ []) n) n
    old q =
        let same = address_old b i p names n (λ z. can.new n z q) in
        subst (λ z. IsAddress (b ++ Expand i p names ∷ []) z (address_in (b ++ Expand i p names ∷ []) n) n) (sym root)
        (subst (λ z. IsAddress (b ++ Expand i p names ∷ []) (root_of b) z n) (sym same) (address_kept b (Expand i p names ∷ []) (address_in b n) (root_of b) n (known n q)))

    new : IsIn n names → IsAddress (b ++ Expand i p names ∷ []) (root_of (b ++ Expand i p names ∷ [])) (address_in (b ++ Expand i p names ∷ []) n) n
    new q =
        let k = in_at n names q in
        let same = address_child b i p names n k.0 can.differ k.1 in
        let up = address_kept b (Expand i p names ∷ []) (address_in b i) (root_of b) i (known i (name_in _ (made g m b) can.stands)) in
        let at = address_more (b ++ Expand i p names ∷ []) (address_in b i) (root_of b) i (record { production = p; position = k.0 }) names up told (at_below n k.0 names k.1) in
        subst (λ z. IsAddress (b ++ Expand i p names ∷ []) z (address_in (b ++ Expand i p names ∷ []) n) n) (sym root)
        (subst (λ z. IsAddress (b ++ Expand i p names ∷ []) (root_of b) z n) (sym same)
        (subst (λ z. IsAddress (b ++ Expand i p names ∷ []) (root_of b) (address_in b i ++ record { production = p; position = k.0 } ∷ []) z) (at_is n k.0 names [] k.1) at))

known_all : (g : Grammar) (m : ℕ) (a b : List Event) → AreKnown g m b → AllExtend g m b a → AreKnown g m (b ++ a)
known_all g m [] b known x = subst (λ l. AreKnown g m l) (sym (append-nil b)) known
known_all g m (e ∷ a) b known x = subst (λ l. AreKnown g m l) (append_assoc b (e ∷ []) a) (known_all g m a (b ++ e ∷ []) (known_more g m b e known x.0) x.1)

pub known : (g : Grammar) (m : ℕ) (events : List Event) → IsRun g m events → AreKnown g m events
known g m events run = known_all g m events [] (λ n h. absurd h) run

-- an instance keeps its address
pub kept_in : (g : Grammar) (m : ℕ) (more b : List Event) (n : List ℕ) → AllExtend g m b more → IsIn n (names_of (made g m b)) → address_in (b ++ more) n ≡ address_in b n
kept_in g m [] b n x h = ap (λ l. address_in l n) (append-nil b)
kept_in g m (e ∷ more) b n x h =
    ap (λ l. address_in l n) (sym (append_assoc b (e ∷ []) more)) ∙ (kept_in g m more (b ++ e ∷ []) n x.1 (name_kept g m b e n h) ∙ one e x.0)
  where
    one : (e : Event) → Extends g m b e → address_in (b ++ e ∷ []) n ≡ address_in b n
    one (Start r) y = address_start b r n
    one (Expand i p names) can = address_old b i p names n (λ z. can.new n z h)

pub instance_law : InstanceLaw
instance_law g m events more i run here =
    let parts = AllExtend-append g m [] events more run in
    let r0 = parts.0 in
    let name = name_in i (made g m events) here in
    let a = known g m events r0 i.name name in
    let r = route_law g m events r0 (started g m events i here) (address_in events i.name) i.name a in
    record {
      address = a;
      route = r.route;
      ends = ap (λ (z : Instance). z.module_no) (one_of_name (made g m events) (run_differs g m events r0) (record { name = i.name; module_no = module_along g m (address_in events i.name) }) i r.stands here refl);
      same = kept_in g m more events i.name parts.1 name;
      short = address_short events i.name;
    }
