-- A run that takes a start event.
use Rattle.std.proofs.Common.{◌≡◌, ℕ, ◌==◌, Bool, false, not, List, [], ◌∷◌, ◌++◌, length, None, refl, ap, sym, subst, ◌∙◌, inl, inr}
use Rattle.wf_model.specs.Lists.{IsIn}
use Rattle.wf_model.specs.WellFormed.{IsWellFormed}
use Rattle.wf_model.specs.declared.event.Event.{Event}
use Rattle.wf_model.specs.declared.event.Event.TheVariants.{Start}
use Rattle.wf_model.specs.Run.{IsAccepted}
use Rattle.wf_model.specs.Faults.{is_nil, fault_of}
use Rattle.wf_model.proofs.Taking.{skipped, taking_law}
use Rattle.run_faults.proofs.Beginnings.{begun_with}
use Rattle.wf_spec.specs.Held.{HeldGrammar}
use Rattle.wf_run.specs.declared.node.Node.{Node as NodeHeld}
use Rattle.wf_run.specs.Runs.{Node, RunSeen, IsRunOf, GoesOn}
use Rattle.wf_run.specs.Nodes.{node_of, run_of, IsFilledPrefix, IsRunKept}
use Rattle.wf_run.specs.Opening.{closed_node, root_prefix, started_run}
use Rattle.wf_run.proofs.Started.{started_is_run, started_goes_on}
use Rattle.wf_run.proofs.NamedInstances.{same_count}

-- a run has begun where it has an instance
pub begun_told : (r : RunSeen) (events : List Event) → IsRunOf r events → (n : ℕ) (empty : Bool) → n ≡ length r.nodes → empty ≡ (n == 0) → is_nil events ≡ not (not empty)
begun_told r events run n empty e t = begun_with r.grammar.core r.grammar.core.start events run.accepted.0 n empty (e ∙ sym (same_count r events run)) t

module _ (r : RunSeen) (name : List ℕ) (formed : IsWellFormed r.grammar.core) (events : List Event) (run : IsRunOf r events) (taken : fault_of r.grammar.core r.most events (Start name) ≡ None) where
  first : events ≡ []
  first = go events (skipped _ _ _ taken).0
    where
      go : (a : List Event) → not (is_nil a) ≡ false → a ≡ []
      go [] h = refl
      go (x ∷ a) h = absurd (cc)

  not_begun : IsRunOf r []
  not_begun = subst (IsRunOf r) first run

  accepted : IsAccepted r.grammar.core r.most (Start name ∷ [])
  accepted = subst (λ a. IsAccepted r.grammar.core r.most (a ++ Start name ∷ [])) first ((taking_law r.grammar.core r.most events (Start name) run.accepted).0 taken)

  pub begun_run : IsRunOf (started_run r name) (events ++ Start name ∷ [])
  begun_run = subst (λ a. IsRunOf (started_run r name) (a ++ Start name ∷ [])) (sym first) (started_is_run r name formed not_begun accepted)

  pub begun_on : GoesOn r (started_run r name)
  begun_on = started_goes_on r name not_begun

-- the fields after the root was added
module _ (g : HeldGrammar) (most : ℕ) (names new : List (List ℕ)) (nodes : List NodeHeld) (xs : List NodeHeld) (expands : ℕ) (x : NodeHeld) (name : List ℕ) (named : new ≡ name ∷ []) (one : xs ≡ x ∷ []) (root : node_of x ≡ closed_node g.core.start (root_prefix g.core)) where
  pub begun_view : (r : RunSeen) → run_of g most names nodes expands ≡ r → run_of g most new xs expands ≡ started_run r name
  begun_view r v =
      ap (λ ns. run_of g most ns xs expands) named
      ∙ (ap (λ l. run_of g most (name ∷ []) l expands) one
      ∙ (ap (λ (n : Node). record { grammar = g; most = most; names = name ∷ []; nodes = n ∷ []; expands = expands }) root
      ∙ ap (λ z. started_run z name) v))

  pub begun_kept : IsWellFormed g.core → IsFilledPrefix x → IsRunKept (run_of g most names nodes expands) nodes → (r : RunSeen) → run_of g most names nodes expands ≡ r →
      ((events : List Event) → IsRunOf r events → fault_of r.grammar.core r.most events (Start name) ≡ None) → IsRunKept (run_of g most new xs expands) xs
  begun_kept formed filled k r v taken = record {
    linear = k.linear;
    most = k.most;
    filled = alone;
    events = k.events ++ Start name ∷ [];
    run = subst (λ z. IsRunOf z (k.events ++ Start name ∷ [])) (sym (begun_view r v)) (begun_run r name (subst (λ (z : RunSeen). IsWellFormed z.grammar.core) v formed) k.events old (taken k.events old));
  }
    where
      old : IsRunOf r k.events
      old = subst (λ z. IsRunOf z k.events) v k.run

      it : (n : NodeHeld) → IsIn n (x ∷ []) → IsFilledPrefix n
      it n (inl e) = subst IsFilledPrefix (sym e) filled
      it n (inr e) = absurd e

      alone : (n : NodeHeld) → IsIn n xs → IsFilledPrefix n
      alone n h = it n (subst (IsIn n) one h)
