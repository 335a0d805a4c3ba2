-- The lifted grammar of an accepted grammar is accepted, with its ranks, choices and cycles.
use Rattle.std.proofs.Common.{◌≡◌, ◌⊎◌, ℕ, ◌<◌, ◌≤◌, List, [], map, sym, ap, ◌∙◌, subst, inl, inr}
use Rattle.wf_model.specs.Lists.{IsAt}
use Rattle.wf_model.specs.Grammar.{Grammar, Module, Production, Given}
use Rattle.wf_model.specs.WellFormed.{IsWellFormed}
use Rattle.wf_model.specs.Proper.{IsProper}
use Rattle.wf_model.specs.Linear.{IsLinear}
use Rattle.wf_spec.specs.declared.version.Version.{Version}
use Rattle.wf_spec.specs.Held.{HeldGrammar, grammar_of_lists}
use Rattle.wf_check.specs.Proper.{IsRankingOf}
use Rattle.wf_check.proofs.NoneOfProper.{none_of_proper}
use Rattle.wf_recur.specs.Cycles.{AreCyclesOf}
use Rattle.wf_recur.proofs.OneLoops.{none_of_linear}
use Rattle.wf_recur.proofs.OneTable.{one_table}
use Rattle.wf_accept.specs.Accepted.{AcceptedValue, IsAccepted}
use Rattle.wf_accept.specs.Faults.{IsFaultOf}
use Rattle.wf_accept.specs.declared.fault.AcceptFault.{AcceptFault}
use Rattle.wf_accept.specs.declared.fault.AcceptFault.TheVariants.{NotProper, NotLinear, VersionChanged, NoMemory}
use Rattle.words_model.specs.Lifting.{lift, lift_module, lift_production, HasFewStates}
use Rattle.words_model.proofs.LiftedGrammars.{lifted_grammar_law}
use Rattle.wf_lift.proofs.SameTables.{lifted_tables_law}

-- the lists of the lifted grammar
pub formed_lists : (g : Grammar) (k start : ℕ) (modules : List Module) (rules : List Production) (given : List Given) → IsWellFormed g → 0 < k → k ≤ 64 → HasFewStates g k
    → start ≡ g.start → modules ≡ map (lift_module k) g.modules → rules ≡ map (lift_production k) g.productions → given ≡ [] → IsWellFormed (grammar_of_lists start modules rules given)
formed_lists g k start modules rules given wf some few ports a b c d =
    let e : grammar_of_lists start modules rules given ≡ lift g k = (λ t. record { start = a t; modules = b t; productions = c t; given = d t }) in
    subst IsWellFormed (sym e) (lifted_grammar_law g k wf some few ports).formed

-- no other fault is met than want of memory
pub only_memory : (h : HeldGrammar) (f : AcceptFault) → IsProper h.core → IsLinear h.core → h.versions ≡ [] → (f ≡ NoMemory) ⊎ IsFaultOf h f → f ≡ NoMemory
only_memory h f proper linear none (inl e) = e
only_memory h (NotProper f) proper linear none (inr q) = absurd (none_of_proper h.core f proper q)
only_memory h (NotLinear f) proper linear none (inr q) = absurd (none_of_linear h.core f linear q.1)
only_memory h (VersionChanged n f) proper linear none (inr q) = absurd (subst (λ (vs : List Version). IsAt q.2.version n vs) none q.2.is_at)
only_memory h NoMemory proper linear none (inr q) = absurd q

module _ (a : AcceptedValue) (accepted : IsAccepted a) (k : ℕ) (some : 0 < k) (few : k ≤ 64) (ports : HasFewStates a.grammar.core k) (h : HeldGrammar) (is : h.core ≡ lift a.grammar.core k) where
  pub lifted_proper : IsProper h.core
  lifted_proper = subst IsProper (sym is) ((lifted_grammar_law a.grammar.core k accepted.formed some few ports).proper accepted.proper)

  pub lifted_linear : IsLinear h.core
  lifted_linear = subst IsLinear (sym is) ((lifted_grammar_law a.grammar.core k accepted.formed some few ports).linear accepted.linear)

  module _ (l : AcceptedValue) (of : l.grammar ≡ h) (known : IsAccepted l) where
    there : l.grammar.core ≡ lift a.grammar.core k
    there = ap (λ (x : HeldGrammar). x.core) of ∙ is

    pub lifted_ranking : IsRankingOf l.grammar.core a.ranking
    lifted_ranking = subst (λ z. IsRankingOf z a.ranking) (sym there) (((lifted_tables_law a.grammar.core k).ranking a.ranking).0 accepted.ranked)

    pub lifted_cycles : l.cycles ≡ a.cycles
    lifted_cycles =
        one_table l.grammar.core known.linear l.cycles a.cycles known.cycled
        (subst (λ z. AreCyclesOf z a.cycles) (sym there) (((lifted_tables_law a.grammar.core k).cycles a.cycles).0 accepted.cycled))
