-- Runs and label files of an earlier version of a grammar: the grammar has the same runs, and the same entries.
use Rattle.std.proofs.Common.{◌≡◌, ◌^◌, List, [], map, length, take_all, refl, sym, ap, ◌∙◌, subst, inl, inr, arith, append-nil}
use Rattle.sha2.proofs.Facts256.{length-sha256}
use Rattle.wf_model.specs.Lists.{IsIn}
use Rattle.wf_model.specs.Grammar.{Grammar, Given}
use Rattle.wf_model.specs.View.{View}
use Rattle.wf_model.specs.Versions.{version_of}
use Rattle.wf_model.specs.declared.event.Event.{Event}
use Rattle.wf_model.specs.Run.{IsAccepted}
use Rattle.wf_model.proofs.Lists.{in_map}
use Rattle.sha2.specs.Sha256.{sha256}
use Rattle.version_model.specs.Versions.{AreBuiltAlike}
use Rattle.version_model.proofs.GivenPairs.{other, built_alike, built_back, given_pairs_law}
use Rattle.version_model.proofs.VersionRuns.{version_run_law}
use Rattle.version_model.proofs.VersionEntries.{version_entries_law}
use Rattle.version_model.proofs.VersionReports.{version_reports_law}
use Rattle.report_model.specs.Intake.{GoesOn, intake}
use Rattle.wf_io.specs.Lines.{FileLines}
use Rattle.wf_spec.specs.declared.version.Version.{Version}
use Rattle.wf_spec.specs.Held.{HeldGrammar}
use Rattle.wf_json.specs.Canonical.{canonical_of}
use Rattle.wf_json.specs.Digests.{digest_of, digest_of_version, digests_of}
use Rattle.label_model.specs.Files.{Entry, entries_of, label_file, Accepted}
use Rattle.label_model.proofs.FileReadings.{one_reading_law}
use Rattle.label_model.proofs.GoodFiles.{cut_law}
use Rattle.wf_inputs.specs.Inputs.{instance_most}
use Rattle.wf_inputs.specs.RunTold.{TellsEvents}
use Rattle.wf_inputs.specs.LabelsTold.{TellsEntries}
use Rattle.cmd_ingest.specs.Ingested.{file_of}
use Rattle.outcome_laws.specs.Laws.{IsOneOf, IsViewedSafely}

-- given pairs are no part of the canonical text, so grammars that are built alike have one digest
canonical_same : (g : Grammar) (given : List Given) → canonical_of (other g given) ≡ canonical_of g
canonical_same g given = refl

same_digest : (g k : Grammar) → AreBuiltAlike g k → digest_of k ≡ digest_of g
same_digest g k alike = sym (ap digest_of (built_alike g k alike)) ∙ ap sha256 (canonical_same g k.given)

module _ (h : HeldGrammar) (u : View) (viewed : IsViewedSafely h u) where
  abbrev version : Version → Grammar
  version v = version_of h.core v.modules v.productions

  -- the digest of the grammar or of a version is known
  known_digest : (g : Grammar) → IsOneOf h g → IsIn (digest_of g) (digests_of h)
  known_digest g (inl alike) = inl (same_digest h.core g alike)
  known_digest g (inr (v, i, alike)) = inr (subst (λ d. IsIn d (map (digest_of_version h.core) h.versions)) (sym (same_digest (version v) g alike)) (in_map (digest_of_version h.core) v h.versions i))

  -- reports that it takes whole, the grammar takes whole
  pub told_too : (g : Grammar) → IsOneOf h g → (file : FileLines) (e : List Event) → TellsEvents g instance_most file e → TellsEvents h.core instance_most file e
  told_too g one_of file e told = record { whole = told.whole; reports = told.reports; read = told.read; state = told.state; taken = taken one_of; run = told.run }
    where
      taken : IsOneOf h g → intake h.core instance_most told.reports ≡ GoesOn told.state
      taken (inl alike) = (given_pairs_law h.core g alike).reports instance_most told.reports ∙ told.taken
      taken (inr (v, i, alike)) =
          version_reports_law h.core v.modules v.productions instance_most (viewed.versions.each v i) told.reports told.state
          ((given_pairs_law (version v) g alike).reports instance_most told.reports ∙ told.taken)

  module _ (e : List Event) where
    -- a run that it accepts, a version accepts that is built alike
    version_accepts : (v : Version) (g : Grammar) → AreBuiltAlike (version v) g → IsAccepted g (2 ^ 24) e → IsAccepted (version v) (2 ^ 24) e
    version_accepts v g alike acc = (given_pairs_law g (version v) (built_back (version v) g alike)).accepted (2 ^ 24) e acc

    -- and so does the grammar
    pub accepted_too : (g : Grammar) → IsOneOf h g → IsAccepted g (2 ^ 24) e → IsAccepted h.core (2 ^ 24) e
    accepted_too g (inl alike) acc = (given_pairs_law g h.core (built_back h.core g alike)).accepted (2 ^ 24) e acc
    accepted_too g (inr (v, i, alike)) acc = (version_run_law h.core v.modules v.productions (viewed.versions.each v i)).accepted (2 ^ 24) e (version_accepts v g alike acc)

    -- its label file is that of the grammar, but for the digest
    same_file : (g : Grammar) → IsOneOf h g → IsAccepted g (2 ^ 24) e → file_of g e ≡ label_file h.core (digest_of g) e
    same_file g (inl alike) acc = sym ((given_pairs_law h.core g alike).file (digest_of g) e)
    same_file g (inr (v, i, alike)) acc =
        sym ((given_pairs_law (version v) g alike).file (digest_of g) e) ∙
        (version_entries_law h.core v.modules v.productions (viewed.versions.each v i) viewed.formed viewed.linear (viewed.keeps v i) e (version_accepts v g alike acc).0).file (digest_of g)

    module _ (g : Grammar) (one_of : IsOneOf h g) (acc : IsAccepted g (2 ^ 24) e) where
      -- so it is read as the entries of the run
      pub file_opens : TellsEntries h (file_of g e) (entries_of h.core e)
      file_opens =
          let digest = digest_of g in
          let file = label_file h.core digest e in
          let cut = cut_law h.core viewed.formed viewed.linear digest (length-sha256 (canonical_of g)) e (accepted_too g one_of acc) in
          subst (λ b. TellsEntries h b (entries_of h.core e)) (take_all (length file) file (omega arith) ∙ sym (same_file g one_of acc))
          (cut.entries (digests_of h) (known_digest g one_of) (entries_of h.core e) [] (sym (append-nil (entries_of h.core e))))

      -- and as no others
      pub file_entries : (entries : List Entry) → TellsEntries h (file_of g e) entries → entries ≡ entries_of h.core e
      file_entries entries told =
          let same = one_reading_law h.core (digests_of h) (file_of g e) (Accepted entries) (Accepted (entries_of h.core e)) told file_opens in (cc)
