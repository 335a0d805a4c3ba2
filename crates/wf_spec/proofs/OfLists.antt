-- The tables of a well-formed grammar, made from its lists.
use Rattle.std.proofs.Common.{◌≡◌, ℕ, List, [], map, length, sym, ◌∙◌, subst, arith}
use Rattle.wf_model.specs.Lists.{numbers_from}
use Rattle.wf_model.specs.Grammar.{Grammar, Module, Production, Given, alternative_of}
use Rattle.wf_model.specs.WellFormed.{IsWellFormed}
use Rattle.wf_model.proofs.Level.{in_numbers}
use Rattle.wf_model.proofs.Mapping.{map_same}
use Rattle.wf_spec.specs.declared.version.Version.{Version}
use Rattle.wf_spec.specs.GivenRows.{AreGivenIn}
use Rattle.wf_spec.specs.Held.{HeldProduction, AreVersionsOf, core_of, grammar_of_lists}
use Rattle.wf_spec.specs.Naming.{names_of}
use Rattle.wf_spec.specs.Tables.{head_at, headed, places, AreByHead, AreRows, IsKept}
use Rattle.wf_spec.proofs.Tables.{headed_count}

-- the pairs that a well-formed grammar gives are ports of its modules
pub given_within : (g : Grammar) → IsWellFormed g → AreGivenIn g.modules g.given
given_within g formed = record { module_no = λ d h. (formed.given_atomic d h).0; pairs = λ d e h i. formed.given_pairs d e h i }

-- the places of productions are their alternative numbers
places_are : (g : Grammar) → places g.productions (length g.productions) ≡ map (alternative_of g) (numbers_from 0 (length g.productions))
places_are g =
    map_same (λ p. length (headed g.productions p (head_at g.productions p))) (alternative_of g) (numbers_from 0 (length g.productions))
    (λ p h. headed_count g.productions p (head_at g.productions p) (let b = in_numbers p 0 (length g.productions) h in omega arith))

-- no versions are versions of any grammar
pub no_versions : (g : Grammar) (list : List Version) → list ≡ [] → AreVersionsOf g list
no_versions g list e = subst (AreVersionsOf g) (sym e) (record { few = omega arith; each = λ v i. absurd i })

-- the tables of a grammar, made from its lists
pub record AreMade (g : Grammar) (held : List HeldProduction) (names lists table : List (List ℕ)) : Type 0 where
  pub names_are : names ≡ names_of g.modules
  pub cores : map (λ (p : HeldProduction). p.core) held ≡ g.productions
  pub by_head : AreByHead (length g.modules) g.productions (length g.productions) lists
  pub rows : AreRows g table
  pub places : map (λ (p : HeldProduction). p.alternative) held ≡ places g.productions (length g.productions)

-- the grammar is kept with them
pub made_kept : (start : ℕ) (modules : List Module) (rules : List Production) (given : List Given) (held : List HeldProduction) (names lists table : List (List ℕ)) → IsWellFormed (grammar_of_lists start modules rules given)
    → AreMade (grammar_of_lists start modules rules given) held names lists table → IsKept (core_of start modules held given) names lists table (map (λ (p : HeldProduction). p.alternative) held)
made_kept start modules rules given held names lists table formed m =
    subst (λ rs. IsKept (grammar_of_lists start modules rs given) names lists table (map (λ (p : HeldProduction). p.alternative) held)) (sym m.cores) (record {
      well_formed = formed;
      names = m.names_are;
      by_head = m.by_head;
      rows = m.rows;
      places = m.places ∙ places_are (grammar_of_lists start modules rules given);
    })
