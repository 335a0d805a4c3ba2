-- The rules on versions, as they are tried over the grammar of parts, and the versions as they are held.
use Rattle.std.proofs.Common.{◌≡◌, ℕ, ◌<◌, ◌≤◌, List, map, length, refl, sym, ap, ◌∙◌, subst, inl, inr, arith}
use Rattle.std.proofs.lemmas.List.{length-map}
use Rattle.wf_model.specs.declared.parts.Parts.{Parts}
use Rattle.wf_model.specs.declared.parts.VersionPart.{VersionPart}
use Rattle.wf_model.specs.Lists.{IsIn, IsAt}
use Rattle.wf_model.specs.Grammar.{Grammar}
use Rattle.wf_model.specs.Versions.{IsVersion}
use Rattle.wf_model.proofs.Lists.{in_map_from}
use Rattle.wf_spec.specs.declared.version.Version.{Version}
use Rattle.wf_spec.specs.FirstFaults.{FailsFirstAt, HoldsThroughout, IsFirstFault, each}
use Rattle.wf_spec.specs.Held.{HeldGrammar, AreVersionsOf}
use Rattle.wf_spec.proofs.FirstFaults.{holds_of, once_fails}
use Rattle.wf_form.specs.declared.fault.FormFault.TheVariants.{TooManyVersions, VersionBad}
use Rattle.wf_form.specs.Forming.{grammar_of, held_of, version_in, HaveVersions}
use Rattle.wf_form.specs.Rules.{version_rules, AreKept}
use Rattle.wf_form.proofs.Faults.{form}

module _ (parts : Parts) (g : Grammar) (versions : List VersionPart) (is : g ≡ grammar_of parts) (are : versions ≡ parts.versions) where
  -- more than 64 versions
  pub too_many : 64 < length versions → IsFirstFault (version_rules parts) TooManyVersions
  too_many many = inl (0, once_fails (length parts.versions ≤ 64) (λ few. absurd (omega (arith, ap length are))), refl)

  -- the first that is none of the grammar
  pub bad_version : (k : ℕ) → length versions ≤ 64 → FailsFirstAt (length versions) (λ j. (v : VersionPart) → IsAt v j versions → IsVersion g v.modules v.productions) k
      → IsFirstFault (version_rules parts) (VersionBad k)
  bad_version k few fails =
      let at_most : length parts.versions ≤ 64 = omega (arith, ap length are) in
      inr (
        (λ j h. at_most),
        inl (
          k,
          subst (λ (h : Grammar). FailsFirstAt (length parts.versions) (λ j. (v : VersionPart) → IsAt v j parts.versions → IsVersion h v.modules v.productions) k) is
              (subst (λ (vs : List VersionPart). FailsFirstAt (length vs) (λ j. (v : VersionPart) → IsAt v j vs → IsVersion g v.modules v.productions) k) are fails),
          refl,
        ),
      )

  -- each is one of the grammar
  pub good_versions : length versions ≤ 64 → HoldsThroughout (each versions (λ v. IsVersion g v.modules v.productions) VersionBad) → HaveVersions parts
  good_versions few all = record {
    few = omega (arith, ap length are);
    each = λ v i.
        subst (λ (h : Grammar). IsVersion h v.modules v.productions) is (holds_of (λ (v : VersionPart). IsVersion g v.modules v.productions) VersionBad versions all v (subst (λ (vs : List VersionPart). IsIn v vs) (sym are) i));
  }

  -- and so are they as they are held
  pub held_versions : HaveVersions parts → (list : List Version) → list ≡ map version_in versions → AreVersionsOf g list
  held_versions have list made =
      let all : list ≡ map version_in parts.versions = made ∙ ap (map version_in) are in
      subst (λ (h : Grammar). AreVersionsOf h list) (sym is) (subst (AreVersionsOf (grammar_of parts)) (sym all) (record {
        few = subst (λ n. n ≤ 64) (sym (length-map parts.versions version_in)) have.few;
        each = λ v i. (let r = in_map_from version_in v parts.versions i in subst (λ (w : Version). IsVersion (grammar_of parts) w.modules w.productions) (sym r.2) (have.each r.0 r.1));
      }))

  -- so they make the grammar of the parts
  pub held_whole : (list : List Version) (held : HeldGrammar) → list ≡ map version_in versions → held ≡ record { core = g; versions = list } → held ≡ held_of parts
  held_whole list held made told = told ∙ (λ i. record { core = is i; versions = (made ∙ ap (map version_in) are) i })

  -- they are of at most 1,024 modules and productions
  pub small_versions : AreKept parts → HaveVersions parts → (v : VersionPart) → IsIn v versions → (v.modules ≤ 1024) × (v.productions ≤ 1024)
  small_versions kept have v i =
      let formed = (form parts kept).well_formed in
      let one = have.each v (subst (λ (vs : List VersionPart). IsIn v vs) are i) in
      let modules : v.modules ≤ 1024 = omega (arith, formed.few_modules, one.modules) in
      let productions : v.productions ≤ 1024 = omega (arith, formed.few_productions, one.productions) in
      (modules, productions)
