-- Runs and their sources: each run that was started comes from a source that was accepted, and keeps it.

use Rattle.std.proofs.Common.{◌≡◌, ◌<◌, ℕ, zero, suc, ◌+◌, Bool, true, false, ◌&&◌, List, [], ◌∷◌, ◌++◌, Option, Some, None, refl, sym, ap, ◌∙◌, subst, inl, inr, ◌⊎◌, nat_eq, nat_lt, length, arith, append_assoc, append-nil}
use Rattle.std.specs.Prelude.{count_by, find, position, slice_get, option_map, option_and_then, unwrap_or, if◌then◌else◌}
use Rattle.std.specs.Option.{option_map_or}
use Rattle.std.specs.List.{position_or_len}
use Rattle.std.specs.Str.{bytes_eq}
use Rattle.std.proofs.lemmas.Bool.{eq-eqb, ne_eqb, eqb-true, ltb-true, ltb-false}
use Rattle.std.proofs.lemmas.List.Folds.{find_at}
use Rattle.std.proofs.lemmas.Slice.Eq.{bytes_eq-Decides}
use Rattle.mos_text.specs.FileName.{is_source_name}
use Rattle.job_calls.specs.declared.call.Call.{Call}
use Rattle.job_calls.specs.declared.call.Call.TheVariants.{Compile, Run, Unload}
use Rattle.job_calls.specs.declared.reply.Reply.{Reply}
use Rattle.job_calls.specs.declared.reply.Reply.TheVariants.{Opened, Code, Loaded, Started, Unit as UnitReply}
use Rattle.job_calls.specs.declared.entry.Entry.{Entry}
use Rattle.job_calls.specs.declared.entry.Listed.{Listed}
use Rattle.job_calls.specs.Moments.{moments}
use Rattle.job_calls.specs.Entries.{is_started, run_count, unclaimed_run}
use Rattle.job_calls.specs.Runs.{last_of, last_given, Opening, opening, opening_of, Start, start_by, start_of_run, loaded_source, source_of_model, source_started, source_of, params_of}
use Rattle.job_calls.specs.Files.{files_of, code_of, file_at}
use Rattle.job_calls.specs.Models.{compiled_to, compiled_from, image_source, loaded_count, loads, is_loaded}
use Rattle.job_calls.specs.Legal.{IsLegal, IsOpening, IsMaster, OpensSo, Follows, FollowOn}
use Rattle.job_laws.specs.Truth.{IsAccepted, HasSource}
use Rattle.job_laws.proofs.Growing.{legal_grow, legal_more, moments-snoc, legal_split}
use Rattle.job_laws.proofs.Lists.{none_some, some_is, last_given-snoc}
use Rattle.job_laws.proofs.Outcomes as outcome
use Rattle.job_laws.proofs.Outcomes.{Outcome, run_outcome, is_idle, false_true}
use Rattle.job_laws.proofs.Entering as enter
use Rattle.job_laws.proofs.Entering.{Entering, entering, and_true}
use Rattle.job_laws.proofs.Counts.{as_number}
use Rattle.job_laws.proofs.Bound.{run_counts, least, gives, starts-snoc}

-- the files of a journal that has an entry stay
files_stay : (log : List Entry) (e : Entry) → IsLegal log → files_of (log ++ e ∷ []) ≡ files_of log
files_stay [] e h = absurd h
files_stay (x ∷ xs) e h = refl

opening_stays : (log : List Entry) (e : Entry) → IsLegal log → opening (log ++ e ∷ []) ≡ opening log
opening_stays [] e h = absurd h
opening_stays (x ∷ xs) e h = refl

-- where no file of the name is a source none is found, else the first of the name
no_source : (src : List ℕ) (files : List Listed) → is_source_name src ≡ false
    → find (λ (file : Listed). bytes_eq file.name src && is_source_name file.name) files ≡ None
no_source src [] q = refl
no_source src (x ∷ xs) q = by (bytes_eq x.name src) refl (no_source src xs q) where
  by : (b : Bool) → bytes_eq x.name src ≡ b → find (λ (file : Listed). bytes_eq file.name src && is_source_name file.name) xs ≡ None
      → (if b && is_source_name x.name then Some x else find (λ (file : Listed). bytes_eq file.name src && is_source_name file.name) xs) ≡ None
  by true is rest =
      ap (λ b. if b then Some x else find (λ (file : Listed). bytes_eq file.name src && is_source_name file.name) xs)
      (ap is_source_name ((bytes_eq-Decides x.name src).0 is) ∙ q) ∙ rest
  by false is rest = rest

first_source : (src : List ℕ) (files : List Listed) → is_source_name src ≡ true
    → find (λ (file : Listed). bytes_eq file.name src && is_source_name file.name) files ≡ find (λ (file : Listed). bytes_eq file.name src) files
first_source src [] q = refl
first_source src (x ∷ xs) q = by (bytes_eq x.name src) refl (first_source src xs q) where
  by : (b : Bool) → bytes_eq x.name src ≡ b
      → find (λ (file : Listed). bytes_eq file.name src && is_source_name file.name) xs ≡ find (λ (file : Listed). bytes_eq file.name src) xs
      → (if b && is_source_name x.name then Some x else find (λ (file : Listed). bytes_eq file.name src && is_source_name file.name) xs)
      ≡ (if b then Some x else find (λ (file : Listed). bytes_eq file.name src) xs)
  by true is rest =
      ap (λ b. if b then Some x else find (λ (file : Listed). bytes_eq file.name src && is_source_name file.name) xs)
      (ap is_source_name ((bytes_eq-Decides x.name src).0 is) ∙ q)
  by false is rest = rest

-- a file that is found has the name
found_name : (src : List ℕ) (files : List Listed) (file : Listed) → find (λ (f : Listed). bytes_eq f.name src) files ≡ Some file → file.name ≡ src
found_name src [] file q = none_some file q
found_name src (x ∷ xs) file q = by (bytes_eq x.name src) refl q (λ r. found_name src xs file r) where
  by : (b : Bool) → bytes_eq x.name src ≡ b → (if b then Some x else find (λ (f : Listed). bytes_eq f.name src) xs) ≡ Some file
      → (find (λ (f : Listed). bytes_eq f.name src) xs ≡ Some file → file.name ≡ src) → file.name ≡ src
  by true is e go = ap (λ (f : Listed). f.name) (sym (some_is x file e)) ∙ (bytes_eq-Decides x.name src).0 is
  by false is e go = go e

place_by : (b : Bool) (n i : ℕ) → (if b then Some n else None) ≡ Some i → n ≡ i
place_by true n i e = some_is n i e
place_by false n i e = none_some i e

-- the file at the place of a name is the first of that name
at_place : (src : List ℕ) (files : List Listed) (source : ℕ) → position (λ (file : Listed). bytes_eq file.name src) files ≡ Some source
    → slice_get files source ≡ find (λ (file : Listed). bytes_eq file.name src) files
at_place src files source q =
    ap (slice_get files) (sym (place_by (nat_lt (position_or_len (λ (file : Listed). bytes_eq file.name src) files) (length files))
    (position_or_len (λ (file : Listed). bytes_eq file.name src) files) source q))
    ∙ sym (find_at (λ (file : Listed). bytes_eq file.name src) files)

one_not : ◌≡◌ {A = ℕ} 1 0 → ⊥
one_not e = absurd (omega (arith, e))

accepted_file : (log : List Entry) (src : List ℕ) (source : ℕ) (o : Option Listed) → is_source_name src ≡ true
    → find (λ (file : Listed). bytes_eq file.name src) (files_of log) ≡ o → option_map_or (λ (file : Listed). file.code) o 1 ≡ 0
    → slice_get (files_of log) source ≡ o → IsAccepted log source
accepted_file log src source None is q code at = absurd (one_not code)
accepted_file log src source (Some file) is q code at = record {
  file = file;
  listed = at;
  code = code;
  named = ap is_source_name (found_name src (files_of log) file q) ∙ is;
}

accepted_by : (log : List Entry) (src : List ℕ) (source : ℕ) (b : Bool) → is_source_name src ≡ b → code_of src log ≡ 0
    → file_at src log ≡ Some source → IsAccepted log source
accepted_by log src source true is code at =
    accepted_file log src source (find (λ (file : Listed). bytes_eq file.name src) (files_of log)) is refl
    (ap (λ o. option_map_or (λ (file : Listed). file.code) o 1) (sym (first_source src (files_of log) is)) ∙ code)
    (at_place src (files_of log) source at)
accepted_by log src source false is code at =
    absurd (one_not (ap (λ o. option_map_or (λ (file : Listed). file.code) o 1) (sym (no_source src (files_of log) is)) ∙ code))

-- each image was made of a source that is accepted
abbrev IsCompiled : List Entry → Type 0
IsCompiled log = (file src : List ℕ) → compiled_from file log ≡ Some src → code_of src log ≡ 0

abbrev code_in : Reply → ℕ
code_in (Code code) = code
code_in reply = 0

compiled_yes : (code : ℕ) (b : Bool) (src other : List ℕ) → (if nat_eq code 0 && b then Some src else None) ≡ Some other → (code ≡ 0) × (src ≡ other)
compiled_yes code b src other e = by (nat_eq code 0 && b) refl e where
  by : (c : Bool) → (nat_eq code 0 && b) ≡ c → (if c then Some src else None) ≡ Some other → (code ≡ 0) × (src ≡ other)
  by true q r = (eqb-true code 0 (and_true (nat_eq code 0) b q).0, some_is src other r)
  by false q r = none_some other r

compiled_outcome : (log : List Entry) (run : ℕ) (call : Call) (reply : Reply) → Outcome log run call reply → (file src : List ℕ)
    → compiled_to file call reply ≡ Some src → code_of src log ≡ 0
compiled_outcome log run _ _ (outcome.idle call reply is can) file src e = idle_made call reply is e where
  idle_made : (call : Call) (reply : Reply) → is_idle reply ≡ true → compiled_to file call reply ≡ Some src → code_of src log ≡ 0
  idle_made (Compile a b) (Code code) is e = absurd (false_true is)
  idle_made (Compile a b) reply is e = none_some src e
  idle_made call reply is e = none_some src e
compiled_outcome log run _ _ (outcome.granted call is) file src e = granted_made call e where
  granted_made : (call : Call) → compiled_to file call UnitReply ≡ Some src → code_of src log ≡ 0
  granted_made (Compile a b) e = none_some src e
  granted_made call e = none_some src e
compiled_outcome log run _ _ (outcome.compiled other dst) file src e =
    let yes_ = compiled_yes (code_of other log) (bytes_eq dst file) other src e in ap (λ s. code_of s log) (sym yes_.1) ∙ yes_.0
compiled_outcome log run _ _ (outcome.loaded image source q) file src e = none_some src e
compiled_outcome log run _ _ (outcome.started model params is less) file src e = none_some src e
compiled_outcome log run _ _ (outcome.next_took event q) file src e = none_some src e
compiled_outcome log run _ _ (outcome.drop_took event q) file src e = none_some src e
compiled_outcome log run _ _ (outcome.queued to class value receiver) file src e = none_some src e
compiled_outcome log run _ _ (outcome.found_write name write q) file src e = none_some src e
compiled_outcome log run _ _ (outcome.found_file name bytes q d) file src e = none_some src e
compiled_outcome log run _ _ (outcome.reads name q) file src e = none_some src e
compiled_outcome log run _ _ (outcome.joins name place a b d s) file src e = none_some src e
compiled_outcome log run _ _ (outcome.put name bytes j) file src e = none_some src e
compiled_outcome log run _ _ (outcome.took_all name) file src e = none_some src e
compiled_outcome log run _ _ (outcome.ended name a b) file src e = none_some src e

compiled_entering : (log : List Entry) (lane : ℕ) (run : Option ℕ) (call : Call) (reply : Reply) → Entering log lane run call reply → (file src : List ℕ)
    → compiled_to file call reply ≡ Some src → code_of src log ≡ 0
compiled_entering log lane _ _ _ (enter.claims k source params none q s p) file src e = none_some src e
compiled_entering log lane _ _ _ (enter.done_entry not_done none q is) file src e = none_some src e
compiled_entering log lane _ _ _ enter.quits file src e = none_some src e
compiled_entering log lane _ _ _ (enter.finishes run end held) file src e = none_some src e
compiled_entering log lane _ _ _ (enter.acts run call reply held fresh fit for_run no_finish answered) file src e =
    compiled_outcome log run call reply (run_outcome log run call reply answered) file src e

-- the second, or the first where there is no second
later_is : {A : Type 0} (a b : Option A) (x : A) → last_of a b ≡ Some x → (a ≡ Some x) ⊎ (b ≡ Some x)
later_is a None x e = inl e
later_is a (Some y) x e = inr e

opened_compiles : (file : List ℕ) (call : Call) → compiled_to file call Opened ≡ None
opened_compiles file (Compile src dst) = refl
opened_compiles file call = refl

compiled_first : (e : Entry) → IsOpening e → IsCompiled (e ∷ [])
compiled_first e o file src q =
    none_some src (sym (ap (λ x. last_of x None) (ap (compiled_to file e.call) o.reply ∙ opened_compiles file e.call)) ∙ q)

compiled_step : (log : List Entry) (e : Entry) → IsLegal log → IsCompiled log → Follows log e → IsCompiled (log ++ e ∷ [])
compiled_step log e h p f file src q =
    let stays = ap (λ files. option_map_or (λ (x : Listed). x.code) (find (λ (x : Listed). bytes_eq x.name src && is_source_name x.name) files) 1) (files_stay log e h) in
    elim (later_is (compiled_from file log) (compiled_to file e.call e.reply) src
    (sym (last_given-snoc (λ (x : Entry). compiled_to file x.call x.reply) log e) ∙ q)) [
      | inl w ↦ stays ∙ p file src w
      | inr w ↦ stays ∙ compiled_entering log e.lane e.run e.call e.reply (entering log e f) file src w
    ]

is_compiled : (journal : List Entry) → IsLegal journal → IsCompiled journal
is_compiled = legal_grow IsCompiled compiled_first compiled_step

image_by : (log : List Entry) (file : List ℕ) (o : Option (List ℕ)) (source : ℕ) → IsLegal log → compiled_from file log ≡ o
    → option_and_then (λ src. file_at src log) o ≡ Some source → IsAccepted log source
image_by log file None source h q r = none_some source r
image_by log file (Some src) source h q r = accepted_by log src source (is_source_name src) refl (is_compiled log h file src q) r

-- an image was made of a source that was accepted
pub image_accepted : (log : List Entry) (file : List ℕ) (source : ℕ) → IsLegal log → image_source file log ≡ Some source → IsAccepted log source
image_accepted log file source h q = image_by log file (compiled_from file log) source h refl q

accepted_stays : (log : List Entry) (e : Entry) (source : ℕ) → IsLegal log → IsAccepted log source → IsAccepted (log ++ e ∷ []) source
accepted_stays log e source h a = record {
  file = a.file;
  listed = ap (λ files. slice_get files source) (files_stay log e h) ∙ a.listed;
  code = a.code;
  named = a.named;
}

-- a model that is loaded has a source
later_some : {A : Type 0} (x : A) (o : Option A) → (y : A) × (last_of (Some x) o ≡ Some y)
later_some x None = (x, refl)
later_some x (Some y) = (y, refl)

if_true : (b : Bool) → (if b then Some true else None) ≡ Some true → b ≡ true
if_true true e = refl
if_true false e = none_some true e

if_false : {A : Type 0} (b : Bool) → (if b then Some false else None) ≡ Some true → A
if_false true e = absurd (false_true (some_is false true e))
if_false false e = none_some true e

loads_source : (m : ℕ) (call : Call) (reply : Reply) → loads m call reply ≡ Some true → (source : ℕ) × (loaded_source m reply ≡ Some source)
loads_source m call (Loaded model source) e = (source, ap (λ b. if b then Some source else None) (if_true (nat_eq model m) e))
loads_source m (Unload model) UnitReply e = if_false (nat_eq model m) e
loads_source m (Unload model) reply e = none_some true e
loads_source m call reply e = none_some true e

loaded_has : (m : ℕ) (log : List Entry) → last_given (λ (e : Entry). loads m e.call e.reply) log ≡ Some true
    → (source : ℕ) × (source_of_model m log ≡ Some source)
loaded_has m [] e = none_some true e
loaded_has m (x ∷ xs) e = by (last_given (λ (y : Entry). loads m y.call y.reply) xs) refl e (λ q. loaded_has m xs q) where
  by : (o : Option Bool) → last_given (λ (y : Entry). loads m y.call y.reply) xs ≡ o → last_of (loads m x.call x.reply) o ≡ Some true
      → (last_given (λ (y : Entry). loads m y.call y.reply) xs ≡ Some true → (source : ℕ) × (source_of_model m xs ≡ Some source))
      → (source : ℕ) × (last_of (loaded_source m x.reply) (source_of_model m xs) ≡ Some source)
  by (Some b) q r go = let s = go (q ∙ r) in (s.0, ap (last_of (loaded_source m x.reply)) s.1)
  by None q r go =
      let s = loads_source m x.call x.reply r in
      let l = later_some s.0 (source_of_model m xs) in
      (l.0, ap (λ o. last_of o (source_of_model m xs)) s.1 ∙ l.1)

unwrap_true : (o : Option Bool) → unwrap_or o false ≡ true → o ≡ Some true
unwrap_true None e = absurd (false_true e)
unwrap_true (Some b) e = ap Some e

model_source : (m : ℕ) (log : List Entry) → is_loaded m log ≡ true → (source : ℕ) × (source_of_model m log ≡ Some source)
model_source m log is = loaded_has m log (unwrap_true (last_given (λ (e : Entry). loads m e.call e.reply) log) is)

-- and the source was accepted
abbrev AreModelsAccepted : List Entry → Type 0
AreModelsAccepted log = (m source : ℕ) → source_of_model m log ≡ Some source → IsAccepted log source

if_same : (b : Bool) (x y : ℕ) → (if b then Some x else None) ≡ Some y → x ≡ y
if_same true x y e = some_is x y e
if_same false x y e = none_some y e

loaded_outcome : (log : List Entry) (run : ℕ) (call : Call) (reply : Reply) → IsLegal log → Outcome log run call reply → (m source : ℕ)
    → loaded_source m reply ≡ Some source → IsAccepted log source
loaded_outcome log run _ _ h (outcome.idle call reply is can) m source e = idle_loads reply is e where
  idle_loads : (reply : Reply) → is_idle reply ≡ true → loaded_source m reply ≡ Some source → IsAccepted log source
  idle_loads (Loaded model other) is e = absurd (false_true is)
  idle_loads reply is e = none_some source e
loaded_outcome log run _ _ h (outcome.granted call is) m source e = none_some source e
loaded_outcome log run _ _ h (outcome.compiled src dst) m source e = none_some source e
loaded_outcome log run _ _ h (outcome.loaded file other q) m source e =
    subst (IsAccepted log) (if_same (nat_eq (1 + loaded_count log) m) other source e) (image_accepted log file other h q)
loaded_outcome log run _ _ h (outcome.started model params is less) m source e = none_some source e
loaded_outcome log run _ _ h (outcome.next_took event q) m source e = none_some source e
loaded_outcome log run _ _ h (outcome.drop_took event q) m source e = none_some source e
loaded_outcome log run _ _ h (outcome.queued to class value receiver) m source e = none_some source e
loaded_outcome log run _ _ h (outcome.found_write name write q) m source e = none_some source e
loaded_outcome log run _ _ h (outcome.found_file name bytes q d) m source e = none_some source e
loaded_outcome log run _ _ h (outcome.reads name q) m source e = none_some source e
loaded_outcome log run _ _ h (outcome.joins name place a b d s) m source e = none_some source e
loaded_outcome log run _ _ h (outcome.put name bytes j) m source e = none_some source e
loaded_outcome log run _ _ h (outcome.took_all name) m source e = none_some source e
loaded_outcome log run _ _ h (outcome.ended name a b) m source e = none_some source e

loaded_entering : (log : List Entry) (lane : ℕ) (run : Option ℕ) (call : Call) (reply : Reply) → IsLegal log → Entering log lane run call reply → (m source : ℕ)
    → loaded_source m reply ≡ Some source → IsAccepted log source
loaded_entering log lane _ _ _ h (enter.claims k s params none q r p) m source e = none_some source e
loaded_entering log lane _ _ _ h (enter.done_entry not_done none q is) m source e = none_some source e
loaded_entering log lane _ _ _ h enter.quits m source e = none_some source e
loaded_entering log lane _ _ _ h (enter.finishes run end held) m source e = none_some source e
loaded_entering log lane _ _ _ h (enter.acts run call reply held fresh fit for_run no_finish answered) m source e =
    loaded_outcome log run call reply h (run_outcome log run call reply answered) m source e

models_first : (e : Entry) → IsOpening e → AreModelsAccepted (e ∷ [])
models_first e o m source q = none_some source (sym (ap (λ r. last_of (loaded_source m r) None) o.reply) ∙ q)

models_step : (log : List Entry) (e : Entry) → IsLegal log → AreModelsAccepted log → Follows log e → AreModelsAccepted (log ++ e ∷ [])
models_step log e h p f m source q =
    elim (later_is (source_of_model m log) (loaded_source m e.reply) source (sym (last_given-snoc (λ (x : Entry). loaded_source m x.reply) log e) ∙ q)) [
      | inl w ↦ accepted_stays log e source h (p m source w)
      | inr w ↦ accepted_stays log e source h (loaded_entering log e.lane e.run e.call e.reply h (entering log e f) m source w)
    ]

models_accepted : (journal : List Entry) → IsLegal journal → AreModelsAccepted journal
models_accepted = legal_grow AreModelsAccepted models_first models_step

-- an entry that starts a run starts the next one, of a model that is loaded
record Starting (log : List Entry) (run : Option ℕ) (call : Call) (reply : Reply) : Type 0 where
  start : Start
  start_is : start_by run call reply ≡ Some start
  run_is : start.run ≡ run_count log
  loaded : is_loaded start.model log ≡ true

idle_starts : (reply : Reply) → is_idle reply ≡ true → is_started reply ≡ false
idle_starts (Started run) e = absurd (false_true e)
idle_starts reply e = refl

starting_outcome : (log : List Entry) (run : ℕ) (call : Call) (reply : Reply) → Outcome log run call reply → is_started reply ≡ true → Starting log (Some run) call reply
starting_outcome log run _ _ (outcome.idle call reply is can) t = absurd (false_true (sym (idle_starts reply is) ∙ t))
starting_outcome log run _ _ (outcome.granted call is) t = absurd (false_true t)
starting_outcome log run _ _ (outcome.compiled src dst) t = absurd (false_true t)
starting_outcome log run _ _ (outcome.loaded file source q) t = absurd (false_true t)
starting_outcome log run _ _ (outcome.started model params is less) t = record {
  start = record { run = run_count log; model = model; params = params; parent = Some run };
  start_is = refl;
  run_is = refl;
  loaded = is;
}
starting_outcome log run _ _ (outcome.next_took event q) t = absurd (false_true t)
starting_outcome log run _ _ (outcome.drop_took event q) t = absurd (false_true t)
starting_outcome log run _ _ (outcome.queued to class value receiver) t = absurd (false_true t)
starting_outcome log run _ _ (outcome.found_write name write q) t = absurd (false_true t)
starting_outcome log run _ _ (outcome.found_file name bytes q d) t = absurd (false_true t)
starting_outcome log run _ _ (outcome.reads name q) t = absurd (false_true t)
starting_outcome log run _ _ (outcome.joins name place a b d s) t = absurd (false_true t)
starting_outcome log run _ _ (outcome.put name bytes j) t = absurd (false_true t)
starting_outcome log run _ _ (outcome.took_all name) t = absurd (false_true t)
starting_outcome log run _ _ (outcome.ended name a b) t = absurd (false_true t)

starting : (log : List Entry) (lane : ℕ) (run : Option ℕ) (call : Call) (reply : Reply) → Entering log lane run call reply → is_started reply ≡ true
    → Starting log run call reply
starting log lane _ _ _ (enter.claims k s params none q r p) t = absurd (false_true t)
starting log lane _ _ _ (enter.done_entry not_done none q is) t = absurd (false_true t)
starting log lane _ _ _ enter.quits t = absurd (false_true t)
starting log lane _ _ _ (enter.finishes run end held) t = absurd (false_true t)
starting log lane _ _ _ (enter.acts run call reply held fresh fit for_run no_finish answered) t =
    starting_outcome log run call reply (run_outcome log run call reply answered) t

starts_none : (run : Option ℕ) (call : Call) (reply : Reply) → is_started reply ≡ false → start_by run call reply ≡ None
starts_none run (Run model params) (Started k) e = absurd (false_true (sym e))
starts_none run (Run model params) reply e = refl
starts_none run call reply e = refl

-- no run that there is is started again
no_start : (log : List Entry) (e : Entry) (k : ℕ) → Follows log e → k < run_count log → start_of_run k e ≡ None
no_start log e k f less = by (is_started e.reply) refl where
  by : (b : Bool) → is_started e.reply ≡ b → start_of_run k e ≡ None
  by false is = ap (option_and_then (λ (start : Start). if nat_eq start.run k then Some start else None)) (starts_none e.run e.call e.reply is)
  by true is =
      let s = starting log e.lane e.run e.call e.reply (entering log e f) is in
      let r = s.run_is in
      ap (option_and_then (λ (start : Start). if nat_eq start.run k then Some start else None)) s.start_is
      ∙ ap (λ b. if b then Some s.start else None) (ne_eqb s.start.run k (λ q. absurd (omega (arith, q, r, less))))

-- the source of run k behind an entry that starts it, or does not
abbrev source_behind : ℕ → List Entry → Option Start → Option ℕ
source_behind k log start =
    unwrap_or (last_of (last_given (source_started k) (moments log)) (option_map (λ (s : Start). source_of_model s.model log) start)) None

source-snoc : (k : ℕ) (log : List Entry) (e : Entry) → source_of (suc k) (log ++ e ∷ []) ≡ source_behind (suc k) log (start_of_run (suc k) e)
source-snoc k log e =
    ap (λ (o : Option (Option ℕ)). unwrap_or o None)
    (ap (last_given (source_started (suc k))) (moments-snoc log e)
    ∙ last_given-snoc (source_started (suc k)) (moments log) (record { before = log; entry = e }))

params-snoc : (k : ℕ) (log : List Entry) (e : Entry)
    → params_of (suc k) (log ++ e ∷ []) ≡ last_of (params_of (suc k) log) (option_map (λ (start : Start). start.params) (start_of_run (suc k) e))
params-snoc k log e = last_given-snoc (λ (x : Entry). option_map (λ (start : Start). start.params) (start_of_run (suc k) x)) log e

source_keeps : (log : List Entry) (e : Entry) (k : ℕ) → IsLegal log → Follows log e → k < run_count log → source_of k (log ++ e ∷ []) ≡ source_of k log
source_keeps log e zero h f less = refl
source_keeps log e (suc k) h f less = source-snoc k log e ∙ ap (source_behind (suc k) log) (no_start log e (suc k) f less)

params_keeps : (log : List Entry) (e : Entry) (k : ℕ) → IsLegal log → Follows log e → k < run_count log → params_of k (log ++ e ∷ []) ≡ params_of k log
params_keeps log e zero h f less = ap (option_map (λ (o : Opening). o.params)) (opening_stays log e h)
params_keeps log e (suc k) h f less =
    params-snoc k log e
    ∙ ap (λ o. last_of (params_of (suc k) log) (option_map (λ (start : Start). start.params) o)) (no_start log e (suc k) f less)

has_stays : (log : List Entry) (e : Entry) (k source : ℕ) (params : List ℕ) → IsLegal log → Follows log e → k < run_count log
    → HasSource log k source params → HasSource (log ++ e ∷ []) k source params
has_stays log e k source params h f less s = record {
  file = s.file;
  source_is = source_keeps log e k h f less ∙ s.source_is;
  params_is = params_keeps log e k h f less ∙ s.params_is;
  listed = ap (λ files. slice_get files source) (files_stay log e h) ∙ s.listed;
  code = s.code;
  named = s.named;
}

-- a run that is started has the source of its model
has_started : (log : List Entry) (e : Entry) (k : ℕ) → IsLegal log → Starting log e.run e.call e.reply → suc k ≡ run_count log
    → (source : ℕ) × (params : List ℕ) × HasSource (log ++ e ∷ []) (suc k) source params
has_started log e k h s q =
    let m = model_source s.start.model log s.loaded in
    let a = accepted_stays log e m.0 h (models_accepted log h s.start.model m.0 m.1) in
    let is : start_of_run (suc k) e ≡ Some s.start =
    ap (option_and_then (λ (start : Start). if nat_eq start.run (suc k) then Some start else None)) s.start_is
    ∙ ap (λ b. if b then Some s.start else None) (eq-eqb s.start.run (suc k) (s.run_is ∙ sym q)) in (
      m.0,
      s.start.params,
      record {
        file = a.file;
        source_is = source-snoc k log e ∙ ap (source_behind (suc k) log) is ∙ m.1;
        params_is =
            params-snoc k log e
            ∙ ap (λ o. last_of (params_of (suc k) log) (option_map (λ (start : Start). start.params) o)) is;
        listed = a.listed;
        code = a.code;
        named = inr a.named;
      },
    )

abbrev HaveSources : List Entry → Type 0
HaveSources log = (k : ℕ) → k < run_count log → (source : ℕ) × (params : List ℕ) × HasSource log k source params

has_new : (log : List Entry) (e : Entry) (k : ℕ) → IsLegal log → Starting log e.run e.call e.reply → k ≡ run_count log
    → (source : ℕ) × (params : List ℕ) × HasSource (log ++ e ∷ []) k source params
has_new log e zero h s q = let one : run_count log ≡ count_by (λ (x : Entry). is_started x.reply) log + 1 = refl in absurd (omega (arith, q, one))
has_new log e (suc k) h s q = has_started log e k h s q

has_step : (log : List Entry) (e : Entry) → IsLegal log → HaveSources log → Follows log e → HaveSources (log ++ e ∷ [])
has_step log e h p f k less = by (nat_lt k (run_count log)) refl (is_started e.reply) refl where
  by : (b : Bool) → nat_lt k (run_count log) ≡ b → (c : Bool) → is_started e.reply ≡ c
      → (source : ℕ) × (params : List ℕ) × HasSource (log ++ e ∷ []) k source params
  by true was c is =
      let l = ltb-true k (run_count log) was in
      let s = p k l in
      (s.0, s.1, has_stays log e k s.0 s.1 h f l s.2)
  by false was true is =
      let l = ltb-false k (run_count log) was in
      let more : run_count (log ++ e ∷ []) ≡ run_count log + 1 = starts-snoc log e ∙ ap (λ b. run_count log + as_number b) is in
      has_new log e k h (starting log e.lane e.run e.call e.reply (entering log e f) is) (omega (arith, l, more, less))
  by false was false is =
      let l = ltb-false k (run_count log) was in
      let more : run_count (log ++ e ∷ []) ≡ run_count log + 0 = starts-snoc log e ∙ ap (λ b. run_count log + as_number b) is in
      absurd (omega (arith, l, more, less))

master_has : (files : List Listed) → IsMaster files → (file : Listed) × (slice_get files 0 ≡ Some file) × (file.code ≡ 0)
master_has [] h = absurd h
master_has (file ∷ files) h = (file, refl, h.1)

has_opened : (e : Entry) (o : Option Opening) → opening_of e.call ≡ o → OpensSo o → (params : List ℕ) × HasSource (e ∷ []) 0 0 params
has_opened e None q h = absurd h
has_opened e (Some o) q h =
    let m = master_has o.files h.master in (
      o.params,
      record {
        file = m.0;
        source_is = refl;
        params_is = ap (option_map (λ (p : Opening). p.params)) q;
        listed = ap (λ p. slice_get (option_map_or (λ (x : Opening). x.files) p []) 0) q ∙ m.1;
        code = m.2;
        named = inl refl;
      },
    )

has_first : (e : Entry) → IsOpening e → HaveSources (e ∷ [])
has_first e o k less =
    let one : run_count (e ∷ []) ≡ 1 + 0 = starts-snoc [] e ∙ ap (λ r. 1 + as_number (is_started r)) o.reply in
    let zero_is : 0 ≡ k = omega (arith, less, one) in
    let s = has_opened e (opening_of e.call) refl o.opened in
    (0, s.0, subst (λ n. HasSource (e ∷ []) n 0 s.0) zero_is s.1)

-- each run has a source
pub have_sources : (journal : List Entry) → IsLegal journal → HaveSources journal
have_sources = legal_grow HaveSources has_first has_step

-- a run that is given to a lane is given with its source
pub claim_says : (log : List Entry) (k source : ℕ) (params : List ℕ) → IsLegal log → unclaimed_run log ≡ Some k → source_of k log ≡ Some source
    → params_of k log ≡ Some params → HasSource log k source params
claim_says log k source params h q s p =
    let at = least log (gives log) (run_counts log h).first_given 0 (run_count log) k (omega arith) q in
    let same = at.0 in
    let g = at.1 in
    let has = have_sources log h k (omega (arith, same, g)) in
    let a : has.0 ≡ source = some_is has.0 source (sym has.2.source_is ∙ s) in
    let b : has.1 ≡ params = some_is has.1 params (sym has.2.params_is ∙ p) in
    subst (HasSource log k source) b (subst (λ n. HasSource log k n has.1) a has.2)

stays_on : (log es : List Entry) → IsLegal log → FollowOn log es → (k : ℕ) → k < run_count log
    → (source_of k (log ++ es) ≡ source_of k log) × (params_of k (log ++ es) ≡ params_of k log)
stays_on log [] h f k less = (ap (source_of k) (append-nil log), ap (params_of k) (append-nil log))
stays_on log (e ∷ es) h f k less =
    let more = starts-snoc log e in
    let rest = stays_on (log ++ e ∷ []) es (legal_more log e h f.0) f.1 k (omega (arith, less, more)) in (
      ap (source_of k) (sym (append_assoc log (e ∷ []) es)) ∙ rest.0 ∙ source_keeps log e k h f.0 less,
      ap (params_of k) (sym (append_assoc log (e ∷ []) es)) ∙ rest.1 ∙ params_keeps log e k h f.0 less,
    )

-- and keeps it
pub sources_stay : (journal more : List Entry) → IsLegal journal → IsLegal (journal ++ more) → (k : ℕ) → k < run_count journal
    → (source_of k (journal ++ more) ≡ source_of k journal) × (params_of k (journal ++ more) ≡ params_of k journal)
sources_stay [] more h g k less = absurd h
sources_stay (x ∷ xs) more h g k less = stays_on (x ∷ xs) more h (legal_split [] x xs more g).1 k less
