-- What `consult` writes of a package that was written is what `decide` writes under its view.
use Rattle.std.proofs.Common.{◌≡◌, ◌⊎◌, ◌≤◌, ℕ, Bool, true, false, cond, List, [], ◌∷◌, length, get_or, Option, None, refl, sym, ap, subst, inl, inr, ⊎_elim, arith}
use Rattle.std.specs.Prelude.{Result, Ok, Err, codes}
use Rattle.hex.specs.declared.error.FromHexError.{FromHexError}
use Rattle.hex.specs.Hex.{decode_of}
use Rattle.wf_model.specs.Grammar.{Grammar}
use Rattle.wf_model.specs.WellFormed.{IsWellFormed}
use Rattle.wf_model.specs.Proper.{IsProper}
use Rattle.wf_model.specs.Linear.{IsLinear}
use Rattle.wf_model.specs.View.{View}
use Rattle.wf_model.specs.Finishing.{ExpandsComposites}
use Rattle.wf_spec.specs.Held.{HeldGrammar}
use Rattle.label_model.specs.Labels.{Label}
use Rattle.label_model.specs.Reading.{IsLabelBytes}
use Rattle.label_model.proofs.LabelOrNot.{label_either}
use Rattle.verdict_model.specs.declared.verdict.Verdict.{Verdict}
use Rattle.verdict_model.specs.Verdicts.{IsVerdict}
use Rattle.verdict_model.proofs.SomeVerdict.{some_verdict}
use Rattle.package_model.specs.Consulting.{IsConsulted}
use Rattle.wf_loops.specs.Looped.{LoopedValue}
use Rattle.package_file.specs.Packed.{IsHeldPackage, TellsPackage as TellsHeld}
use Rattle.wf_package.specs.PackageText.{IsPackageText}
use Rattle.package_laws.specs.ReadBack.{ReadBackLaw}
use Rattle.package_laws.specs.ConsultWritten.{ConsultWrittenLaw}
use Rattle.wf_io.specs.Told.{File}
use Rattle.wf_message.specs.Endings.{End, Done, Usage, Refused, ReadFault, WriteFault, NoMemory}
use Rattle.wf_stage.specs.Stages.{OfWhole, too_long, broken, refused, goes_on}
use Rattle.wf_stage.proofs.TwoStages.{stage_goes_on}
use Rattle.wf_inputs.specs.Inputs.{ViewStage}
use Rattle.wf_inputs.specs.GoodFiles.{HasGrammar, HasView}
use Rattle.wf_inputs.proofs.GoodFiles.{spec_goes_on, view_goes_on}
use Rattle.wf_inputs.proofs.ToldGrammars.{told_formed, told_proper, told_linear}
use Rattle.wf_inputs.proofs.ViewComposites.{told_composites}
use Rattle.cmd_explain.specs.Words.{Command as CommandOfExplain, is_item_name}
use Rattle.cmd_share.specs.PackageTold.{PackageValue, TellsPackage, RefusesPackage, package_kind, package_value}
use Rattle.cmd_share.specs.Consulted.{ConsultsLabels, first_malformed, second_malformed, consulted}
use Rattle.cmd_share.specs.Words.{Command as CommandOfShare, consult_of}
use Rattle.cmd_share.specs.Does.{IsPackaged, Packages, Consults}
use Rattle.cmd_share.proofs.PackageValues.{value_told, one_package, no_refusal_of_package}
use Rattle.cmd_share.proofs.GoodPackages.{told_good}
use Rattle.cmd_share.proofs.OneConsulting.{one_consulting}
use Rattle.cmd_decide.specs.Words.{Command as CommandOfDecide, decide_of}
use Rattle.cmd_decide.specs.Decided.{AreOfLabel, DecidesLabels, first_malformed as first_is_none, second_malformed as second_is_none, decided}
use Rattle.cmd_decide.specs.Does.{Decides}
use Rattle.wf_stage.specs.Families.{command_of_either}
use Rattle.wf_top.specs.Outcome.{Command, command_of, Does, IsOutcome}
use Rattle.outcome_laws.specs.ConsultIsDecide.{label_refused, ConsultIsDecideLaw}

-- SPEC tells a grammar and VIEW a safe view of it, and the text is that of its package
record IsPackagedOf (spec view : File) (text : List ℕ) : Type 0 where
  grammar : HeldGrammar
  has_grammar : HasGrammar spec grammar
  under : View
  has_view : HasView grammar.core view under
  is : IsPackageText grammar.core under text

view_packaged : (g : Grammar) (view : File) (text : List ℕ) → ViewStage g view (IsPackaged g) Done text → (u : View) × HasView g view u × IsPackageText g u text
view_packaged g view text (too_long l x y) = absurd (cc)
view_packaged g view text (broken l b x y) = absurd (cc)
view_packaged g view text (refused l b line fault r x y) = absurd (cc)
view_packaged g view text (goes_on l b u told next) = (u, record { short = l; whole = b; tells = told }, next.1)

packaged_of : (spec view : File) (text : List ℕ) → Packages spec view Done text → IsPackagedOf spec view text
packaged_of spec view text (too_long l x y) = absurd (cc)
packaged_of spec view text (broken l b x y) = absurd (cc)
packaged_of spec view text (refused l b line fault r x y) = absurd (cc)
packaged_of spec view text (goes_on l b h told next) =
    let v = view_packaged h.core view text next in
    record { grammar = h; has_grammar = record { short = l; whole = b; tells = told }; under = v.0; has_view = v.1; is = v.2 }

-- the two places of labels differ
places_differ : codes "label 1" ≡ codes "label 2" → ⊥
places_differ q = let n : 49 ≡ 50 = ap (λ l. get_or l 6 0) q in absurd (omega (arith, n))

-- the place that a refusal names
abbrev place_of : End → List ℕ
place_of Done = []
place_of Usage = []
place_of (Refused place line fault) = place
place_of (ReadFault place) = place
place_of WriteFault = []
place_of NoMemory = []

first_not_second : label_refused (codes "label 1") ≡ label_refused (codes "label 2") → ⊥
first_not_second q = places_differ (ap place_of q)

module _ (read_back : ReadBackLaw) (consult_written : ConsultWrittenLaw) (spec view file : File) (text : List ℕ) (has : IsPackagedOf spec view text)
    (same : file.bytes ≡ text) (short : length text ≤ package_kind.most) (whole : file.broken ≡ false) where
  abbrev g : Grammar
  g = has.grammar.core

  abbrev u : View
  u = has.under

  formed : IsWellFormed g
  formed = told_formed spec.bytes has.grammar has.has_grammar.tells

  proper : IsProper g
  proper = told_proper spec.bytes has.grammar has.has_grammar.tells

  linear : IsLinear g
  linear = told_linear spec.bytes has.grammar has.has_grammar.tells

  composites : ExpandsComposites g u
  composites = told_composites g formed view.bytes u has.has_view.tells

  -- the text is read as a package
  held : (v : LoopedValue) × TellsHeld text v × IsHeldPackage v
  held = (read_back g u has.is.0 has.is.1 formed proper linear composites has.has_view.tells.safe has.is.2 text has.is).told

  abbrev value : PackageValue
  value = package_value held.0

  file_tells : TellsPackage file.bytes value
  file_tells = subst (λ b. TellsPackage b value) (sym same) (value_told text held.0 held.1)

  file_short : length file.bytes ≤ package_kind.most
  file_short = subst (λ b. length b ≤ package_kind.most) (sym same) short

  module _ (first second : List ℕ) where
    -- the verdict under the view is that by the package
    by_package : (x y : Label) → AreOfLabel g first x → AreOfLabel g second y → (v : Verdict) → IsVerdict g u x y v → IsConsulted value.grammar value.loops first second v
    by_package x y hx hy v =
        (consult_written g u formed proper linear composites has.has_view.tells.safe text has.is held.0 held.1 x y first second hx.0 hy.0 hx.1 hy.1 v).1

    labels_answered : (s : List ℕ) → DecidesLabels g u first second Done s → ConsultsLabels value first second Done s
    labels_answered s (first_is_none n p is) = absurd (cc)
    labels_answered s (second_is_none l n p is) = absurd (cc)
    labels_answered s (decided x y hx hy v w p is) = consulted v (by_package x y hx hy v w) p is

    -- what follows SPEC and VIEW, and PACKAGE
    of_decide : (d : End) (s : List ℕ) → Decides spec view first second d s → DecidesLabels g u first second d s
    of_decide d s h = view_goes_on g view u has.has_view (λ w. DecidesLabels g w first second) d s
        (spec_goes_on spec has.grammar has.has_grammar (λ k. ViewStage k.core view (λ w. DecidesLabels k.core w first second)) d s h)

    to_decide : (d : End) (s : List ℕ) → DecidesLabels g u first second d s → Decides spec view first second d s
    to_decide d s h = goes_on has.has_grammar.short has.has_grammar.whole has.grammar has.has_grammar.tells (goes_on has.has_view.short has.has_view.whole u has.has_view.tells h)

    of_consult : (d : End) (s : List ℕ) → Consults file first second d s → ConsultsLabels value first second d s
    of_consult = stage_goes_on package_kind [] file TellsPackage (OfWhole RefusesPackage) (λ p. ConsultsLabels p first second) value file_short whole
        (λ b told. one_package file.bytes value b file_tells told) (λ l x r. no_refusal_of_package file.bytes x value file_tells r.1)

    files_answered : (s : List ℕ) → Decides spec view first second Done s → Consults file first second Done s
    files_answered s h = goes_on file_short whole value file_tells (labels_answered s (of_decide Done s h))

  -- two labels of the grammar are not refused over its package
  not_refused : (first second : List ℕ) → IsLabelBytes g first → IsLabelBytes g second → (d : End) (s : List ℕ) → ConsultsLabels value first second d s → d ≡ Done
  not_refused first second x y d s h =
      let v = some_verdict g u formed proper composites has.has_view.tells.safe x.0 y.0 x.1 y.1 in
      (one_consulting value (told_good file.bytes value file_tells) first second d Done s _ h (consulted v.0 (by_package first second x.0 y.0 (x.1, x.2) (y.1, y.2) v.0 v.1) refl refl)).0

  module _ (first second : List ℕ) where
    -- a first label that is refused over the package is none of the grammar
    labels_first_refused : (s : List ℕ) → ConsultsLabels value first second (label_refused (codes "label 1")) s → DecidesLabels g u first second (label_refused (codes "label 1")) s
    labels_first_refused s (first_malformed m p is) =
        first_is_none (λ l. let q = not_refused first first l l (label_refused (codes "label 1")) [] (first_malformed m refl refl) in absurd (cc)) refl is
    labels_first_refused s (second_malformed l m p is) = absurd (first_not_second p)
    labels_first_refused s (consulted v w p is) = absurd (cc)

    -- of two labels over the package of which the second is refused, one is none of the grammar
    labels_second_refused : (s : List ℕ) → ConsultsLabels value first second (label_refused (codes "label 2")) s →
        DecidesLabels g u first second (label_refused (codes "label 1")) s ⊎ DecidesLabels g u first second (label_refused (codes "label 2")) s
    labels_second_refused s (first_malformed m p is) = absurd (first_not_second (sym p))
    labels_second_refused s (second_malformed l m p is) = ⊎_elim
        (λ x. inr (second_is_none x (λ y. let q = not_refused first second x y (label_refused (codes "label 2")) [] (second_malformed l m refl refl) in absurd (cc)) refl is))
        (λ none. inl (first_is_none none refl is))
        (label_either g first)
    labels_second_refused s (consulted v w p is) = absurd (cc)

    files_first_refused : (s : List ℕ) → Consults file first second (label_refused (codes "label 1")) s → Decides spec view first second (label_refused (codes "label 1")) s
    files_first_refused s h = to_decide first second _ s (labels_first_refused s (of_consult first second _ s h))

    files_second_refused : (s : List ℕ) → Consults file first second (label_refused (codes "label 2")) s →
        Decides spec view first second (label_refused (codes "label 1")) s ⊎ Decides spec view first second (label_refused (codes "label 2")) s
    files_second_refused s h = ⊎_elim (λ d. inl (to_decide first second _ s d)) (λ d. inr (to_decide first second _ s d)) (labels_second_refused s (of_consult first second _ s h))

-- what a word is decoded to
abbrev Decoded : Type 0
Decoded = Result (List ℕ) FromHexError

-- the command of the program that a command of `decide` is where the words are no listing, and the one that a command of `consult` is
abbrev as_decide : Option CommandOfExplain → Option CommandOfDecide → Option Command
as_decide o c = command_of_either None (command_of_either None (command_of_either None (command_of_either None (command_of_either o (command_of_either None (command_of_either c None))))))

abbrev as_share : Option CommandOfShare → Option Command
as_share c = command_of_either None (command_of_either None (command_of_either None (command_of_either None (command_of_either None (command_of_either c None)))))

-- be the last word of `decide` that of an item or not, the words are no listing
no_listing : (b : Bool) → cond {A = Option CommandOfExplain} b None None ≡ None
no_listing true = refl
no_listing false = refl

decide_command : (s v first second : List ℕ) → command_of (codes "decide" ∷ s ∷ v ∷ first ∷ second ∷ []) ≡ as_decide None (decide_of s v (decode_of first) (decode_of second))
decide_command s v first second = ap (λ o. as_decide o (decide_of s v (decode_of first) (decode_of second))) (no_listing (is_item_name second))

-- words are the digits of the bytes of two labels
record AreBytes (x y : Decoded) : Type 0 where
  a : List ℕ
  b : List ℕ
  first : x ≡ Ok a
  second : y ≡ Ok b

module _ (files : List ℕ → File) where
  module _ (s v : List ℕ) where
    -- `decide` over such words, and over others
    words_decided : (x y : Decoded) (e : End) (t : List ℕ) → (e ≡ Usage → ⊥) → Does files (as_decide None (decide_of s v x y)) e t → (w : AreBytes x y) × Decides (files s) (files v) w.a w.b e t
    words_decided (Ok a) (Ok b) e t some h = (record { a = a; b = b; first = refl; second = refl }, h)
    words_decided (Ok a) (Err f) e t some h = absurd (some h.0)
    words_decided (Err f) y e t some h = absurd (some h.0)

    decided_words : (x y : Decoded) (e : End) (t : List ℕ) (w : AreBytes x y) → Decides (files s) (files v) w.a w.b e t → Does files (as_decide None (decide_of s v x y)) e t
    decided_words x y e t w h =
        subst (λ z. Does files (as_decide None (decide_of s v z y)) e t) (sym w.first) (subst (λ z. Does files (as_decide None (decide_of s v (Ok w.a) z)) e t) (sym w.second) h)

  module _ (p : List ℕ) where
    -- so it is with `consult`
    words_consulted : (x y : Decoded) (e : End) (t : List ℕ) → (e ≡ Usage → ⊥) → Does files (as_share (consult_of p x y)) e t → (w : AreBytes x y) × Consults (files p) w.a w.b e t
    words_consulted (Ok a) (Ok b) e t some h = (record { a = a; b = b; first = refl; second = refl }, h)
    words_consulted (Ok a) (Err f) e t some h = absurd (some h.0)
    words_consulted (Err f) y e t some h = absurd (some h.0)

    consulted_words : (x y : Decoded) (e : End) (t : List ℕ) (w : AreBytes x y) → Consults (files p) w.a w.b e t → Does files (as_share (consult_of p x y)) e t
    consulted_words x y e t w h =
        subst (λ z. Does files (as_share (consult_of p z y)) e t) (sym w.first) (subst (λ z. Does files (as_share (consult_of p (Ok w.a) z)) e t) (sym w.second) h)

-- `decide` over two words, by what they are decoded to
module _ (files : List ℕ → File) (s v first second : List ℕ) (e : End) (t : List ℕ) where
  of_words : (e ≡ Usage → ⊥) → IsOutcome files (codes "decide" ∷ s ∷ v ∷ first ∷ second ∷ []) e t → (w : AreBytes (decode_of first) (decode_of second)) × Decides (files s) (files v) w.a w.b e t
  of_words some h = words_decided files s v (decode_of first) (decode_of second) e t some (subst (λ c. Does files c e t) (decide_command s v first second) h)

  to_words : (w : AreBytes (decode_of first) (decode_of second)) → Decides (files s) (files v) w.a w.b e t → IsOutcome files (codes "decide" ∷ s ∷ v ∷ first ∷ second ∷ []) e t
  to_words w h = subst (λ c. Does files c e t) (sym (decide_command s v first second)) (decided_words files s v (decode_of first) (decode_of second) e t w h)

pub consult_is_decide : ReadBackLaw → ConsultWrittenLaw → ConsultIsDecideLaw
consult_is_decide read_back consult_written files spec view source holds first second =
    let has = packaged_of (files spec) (files view) holds.text holds.packaged in
    let x = decode_of first in
    let y = decode_of second in
    let one = label_refused (codes "label 1") in
    let two = label_refused (codes "label 2") in
    record {
      answered = λ text h.
          let w = of_words files spec view first second Done text (λ e. (cc)) h in
          consulted_words files source x y Done text w.0
          (files_answered read_back consult_written (files spec) (files view) (files source) holds.text has holds.bytes holds.short holds.whole w.0.a w.0.b text w.1);
      first_refused = λ text h.
          let w = words_consulted files source x y one text (λ e. (cc)) h in
          to_words files spec view first second one text w.0
          (files_first_refused read_back consult_written (files spec) (files view) (files source) holds.text has holds.bytes holds.short holds.whole w.0.a w.0.b text w.1);
      second_refused = λ text h.
          let w = words_consulted files source x y two text (λ e. (cc)) h in
          ⊎_elim
          (λ d. inl (to_words files spec view first second one text w.0 d))
          (λ d. inr (to_words files spec view first second two text w.0 d))
          (files_second_refused read_back consult_written (files spec) (files view) (files source) holds.text has holds.bytes holds.short holds.whole w.0.a w.0.b text w.1);
    }
