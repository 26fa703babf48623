-- What a journal tells of models and runs, with one more entry.

use Rattle.std.proofs.Common.{◌≡◌, ◌<◌, ◌^◌, ◌-◌, ℕ, ◌+◌, Bool, true, false, not, ◌&&◌, ◌||◌, List, [], ◌∷◌, ◌++◌, Option, Some, None, refl, sym, ap, subst, ◌∙◌, length, length-append, arith, is_some, append-nil, map, nat_eq}
use Rattle.std.specs.Prelude.{filter, if◌then◌else◌, unwrap_or, option_map, nat_lt, min, count_by}
use Rattle.std.specs.List.{list_any}
use Rattle.std.specs.Option.{option_map_or}
use Rattle.std.proofs.lemmas.List.Sums.{count_by-le-length, fold-append}
use Rattle.job_calls.specs.declared.call.Call.{Call}
use Rattle.job_calls.specs.declared.call.Call.TheVariants.{Finish, Run as Begin}
use Rattle.job_calls.specs.declared.reply.Reply.TheVariants.{Loaded}
use Rattle.job_calls.specs.declared.end.End.{End}
use Rattle.job_calls.specs.declared.entry.Entry.{Entry}
use Rattle.job_calls.specs.Moments.{Moment, moments}
use Rattle.job_calls.specs.Entries.{is_run, is_finish, is_finished, is_started, is_quit, is_last, is_done, own_entries, run_count}
use Rattle.job_calls.specs.declared.reply.Reply.{Reply}
use Rattle.job_calls.specs.Fitting.{held_after, held_run, was_done, exchange_of, is_over}
use Rattle.std.proofs.lemmas.List.Elements.{filter-append}
use Rattle.model_table.specs.declared.lane.Lane.{Lane}
use Rattle.job_calls.specs.Runs.{Start, last_of, last_given, loaded_source, source_of_model, start_of_run, source_started, finish}
use Rattle.job_calls.specs.Models.{loads, is_loading, run_of_model, is_live, live_runs, current_run, stopped_model, asks}
use Rattle.growing_lists.specs.Growing.{last_given-snoc, last_place-snoc, as_number, count-snoc, any-snoc, moments-snoc}
use Rattle.model_table.specs.declared.model.Model.{Model}
use Rattle.model_table.specs.declared.run.Run.{Run}
use Rattle.model_table.specs.declared.table.ModelTable.{ModelTable}
use Rattle.model_table.specs.Tables.{model_at, run_at, lane_at, IsLaneAfter, is_live_in, starts_run, source_told, end_told, asks_in, ender, ends_in, starts_in, model_told, IsModelAfter, IsRunAfter}
use Rattle.model_table.specs.Index.{IsModelOf, IsRunOf, IsLaneOf, IsIndexOf, IsTold, IsTallied, gives_run, makes_image, more}
use Rattle.model_table.proofs.Lives.{lives_noted, few_lives}

unwrap_later : {A : Type 0} (old new : Option A) (d : A) → unwrap_or (last_of old new) d ≡ unwrap_or new (unwrap_or old d)
unwrap_later old None d = refl
unwrap_later old (Some x) d = refl

-- a model that is loaded is told of
pub told_loaded : (call : Call) (model source : ℕ) → model_told call (Loaded model source) ≡ Some model
told_loaded (Begin started params) model source = refl
told_loaded call model source = refl

-- a model, one more entry noted
model_noted : (m : ℕ) (old new : Model) (journal : List Entry) (e : Entry) → IsModelAfter old new m e → IsModelOf old m journal → IsModelOf new m (journal ++ e ∷ [])
model_noted m old new journal e told is = record {
  source = told.source ∙ ap (λ o. last_of o (loaded_source m e.reply)) is.source ∙ sym (last_given-snoc (λ (x : Entry). loaded_source m x.reply) journal e);
  loaded = told.loaded
      ∙ ap (unwrap_or (loads m e.call e.reply)) is.loaded
      ∙ sym (ap (λ o. unwrap_or o false) (last_given-snoc (λ (x : Entry). loads m x.call x.reply) journal e)
      ∙ unwrap_later (last_given (λ (x : Entry). loads m x.call x.reply) journal) (loads m e.call e.reply) false);
  current = told.current ∙ ap (λ o. last_of o (run_of_model m e)) is.current ∙ sym (last_given-snoc (run_of_model m) journal e);
}

-- whether a run is live
live_is : (t : ModelTable) (journal : List Entry) (k : ℕ) → IsIndexOf t journal → is_live_in t k ≡ is_live k journal
live_is t journal k is = (λ j. nat_lt k (is.started j + 1) && not ((is.runs k).ended j))

map_same : {A B : Type 0} (f g : A → B) (o : Option A) → ((x : A) → f x ≡ g x) → option_map f o ≡ option_map g o
map_same f g None same = refl
map_same f g (Some x) same = ap Some (same x)

map_or_same : {A B : Type 0} (f g : A → B) (o : Option A) (d : B) → ((x : A) → f x ≡ g x) → option_map_or f o d ≡ option_map_or g o d
map_or_same f g None d same = refl
map_or_same f g (Some x) d same = same x

-- the source of the model that is started
source_is : (t : ModelTable) (journal : List Entry) (k : ℕ) (e : Entry) → IsIndexOf t journal → source_told t k e ≡ source_started k (record { before = journal; entry = e })
source_is t journal k e is =
    map_same (λ (start : Start). (model_at t start.model).source) (λ (start : Start). source_of_model start.model journal) (start_of_run k e)
    (λ start. (is.models start.model).source)

-- whether a run is asked
asks_is : (t : ModelTable) (journal : List Entry) (k : ℕ) (e : Entry) → IsIndexOf t journal → asks_in t k e ≡ asks k (record { before = journal; entry = e })
asks_is t journal k e is =
    map_or_same (λ (model : ℕ). is_run k (model_at t model).current && is_live_in t k) (λ (model : ℕ). is_run k (current_run model journal) && is_live k journal)
    (stopped_model e.call e.reply) false (λ model. (λ j. is_run k ((is.models model).current j) && live_is t journal k is j))

ended_by : (call : Call) → is_some (finish call) ≡ is_finish call
ended_by (Finish end) = refl
ended_by call = refl

later_some : (old : Option End) (told : Bool) (call : Call) → is_some (last_of old (if told then finish call else None)) ≡ (is_some old || (told && is_finish call))
later_some old true call = or_some old (finish call) ∙ ap (λ b. is_some old || b) (ended_by call) where
  or_some : (a b : Option End) → is_some (last_of a b) ≡ (is_some a || is_some b)
  or_some None None = refl
  or_some (Some x) None = refl
  or_some None (Some y) = refl
  or_some (Some x) (Some y) = refl
later_some None false call = refl
later_some (Some x) false call = refl

-- a run, one more entry noted
run_noted : (k : ℕ) (t : ModelTable) (new : Run) (journal : List Entry) (e : Entry) → IsRunAfter t new k e → IsIndexOf t journal → IsRunOf new k (journal ++ e ∷ [])
run_noted k t new journal e told is =
    let run = is.runs k in
    let last : Moment = record { before = journal; entry = e } in record {
      start = told.start ∙ (λ j. if starts_run k e then Some (is.count j) else run.start j) ∙ sym (last_place-snoc (starts_run k) journal e);
      source = told.source
          ∙ (λ j. unwrap_or (source_is t journal k e is j) (run.source j))
          ∙ sym (ap (λ (o : Option (Option ℕ)). unwrap_or o None)
          (ap (last_given (source_started k)) (moments-snoc journal e) ∙ last_given-snoc (source_started k) (moments journal) last)
          ∙ unwrap_later (last_given (source_started k) (moments journal)) (source_started k last) None);
      end = told.end ∙ ap (λ o. last_of o (end_told k e)) run.end ∙ sym (last_given-snoc (end_told k) journal e);
      ended = ap is_some told.end
          ∙ later_some (run_at t k).end (is_run k e.run) e.call
          ∙ ap (λ b. b || (is_run k e.run && is_finish e.call)) run.ended
          ∙ sym (any-snoc (λ (x : Entry). is_run k x.run && is_finish x.call) journal e);
      asked = told.asked
          ∙ (λ j. run.asked j || asks_is t journal k e is j)
          ∙ sym (ap (list_any (asks k)) (moments-snoc journal e) ∙ any-snoc (asks k) (moments journal) last);
      over = told.over
          ∙ ap (λ b. b || (is_run k e.run && is_last e.reply)) run.over
          ∙ sym (any-snoc (λ (x : Entry). is_run k x.run && is_last x.reply) journal e);
    }

own_by : (b : Bool) (own : List Entry) (e : Entry) → own ++ (if b then e ∷ [] else []) ≡ (if b then own ++ e ∷ [] else own)
own_by true own e = refl
own_by false own e = append-nil own

-- the entries of a lane
own-snoc : (l : ℕ) (journal : List Entry) (e : Entry) → own_entries l (journal ++ e ∷ []) ≡ (if nat_eq e.lane l then own_entries l journal ++ e ∷ [] else own_entries l journal)
own-snoc l journal e = filter-append (λ (x : Entry). nat_eq x.lane l) journal (e ∷ []) ∙ own_by (nat_eq e.lane l) (own_entries l journal) e

held-snoc : (own : List Entry) (e : Entry) → held_run (own ++ e ∷ []) ≡ held_after (held_run own) e.call e.reply
held-snoc own e = fold-append (λ held (x : Entry). held_after held x.call x.reply) None own (e ∷ [])

held_by : (b : Bool) (own : List Entry) (e : Entry) → held_run (if b then own ++ e ∷ [] else own) ≡ (if b then held_after (held_run own) e.call e.reply else held_run own)
held_by true own e = held-snoc own e
held_by false own e = refl

done_by : (b : Bool) (own : List Entry) (e : Entry) → was_done (if b then own ++ e ∷ [] else own) ≡ (was_done own || (b && is_done e.reply))
done_by true own e = any-snoc (λ (x : Entry). is_done x.reply) own e
done_by false own e = or_no (was_done own) where
  or_no : (b : Bool) → b ≡ (b || false)
  or_no true = refl
  or_no false = refl

-- a lane, one more entry noted
lane_noted : (l : ℕ) (old new : Lane) (journal : List Entry) (e : Entry) → IsLaneAfter old new l e → IsLaneOf old l journal → IsLaneOf new l (journal ++ e ∷ [])
lane_noted l old new journal e told is = record {
  held = told.held
      ∙ ap (λ o. if nat_eq e.lane l then held_after o e.call e.reply else o) is.held
      ∙ sym (ap held_run (own-snoc l journal e) ∙ held_by (nat_eq e.lane l) (own_entries l journal) e);
  done = told.done
      ∙ ap (λ b. b || (nat_eq e.lane l && is_done e.reply)) is.done
      ∙ sym (ap was_done (own-snoc l journal e) ∙ done_by (nat_eq e.lane l) (own_entries l journal) e);
}

over_by : (c : Bool) (e : Entry) (xs : List Entry) → list_any (λ (pair : Call × Reply). is_last pair.1) (map (λ (x : Entry). (x.call, x.reply)) (if c then e ∷ xs else xs))
    ≡ ((c && is_last e.reply) || list_any (λ (pair : Call × Reply). is_last pair.1) (map (λ (x : Entry). (x.call, x.reply)) xs))
over_by true e xs = refl
over_by false e xs = refl

-- what a run was told, by its exchange
pub over_is : (k : ℕ) (journal : List Entry) → list_any (λ (x : Entry). is_run k x.run && is_last x.reply) journal ≡ is_over (exchange_of k journal)
over_is k [] = refl
over_is k (e ∷ es) =
    ap (λ b. (is_run k e.run && is_last e.reply) || b) (over_is k es) ∙ sym (over_by (is_run k e.run) e (filter (λ (x : Entry). is_run k x.run) es))

counts_by : (counts : Bool) (n : ℕ) → n < 2 ^ 31 → more n counts ≡ n + as_number counts
counts_by true n less = omega (arith, less)
counts_by false n less = omega arith

-- one entry more was counted
counted : (n k : ℕ) (journal : List Entry) (e : Entry) → n ≡ min (k + 1) (2 ^ 32 - 1) → k ≡ length journal → length journal < 2 ^ 31
    → n ≡ length (journal ++ e ∷ [])
counted n k journal e is so_far few =
    let longer = length-append journal (e ∷ []) in omega (arith, is, so_far, few, longer)

-- a count of entries, one more entry noted
count_noted : (p : Entry → Bool) (n m : ℕ) (journal : List Entry) (e : Entry) → m ≡ more n (p e) → n ≡ count_by p journal → length journal < 2 ^ 31
    → m ≡ count_by p (journal ++ e ∷ [])
count_noted p n m journal e is so_far few =
    let less = count_by-le-length p journal in
    is ∙ counts_by (p e) n (omega (arith, so_far, less, few)) ∙ ap (λ k. k + as_number (p e)) so_far ∙ sym (count-snoc p journal e)

-- the live runs, once an entry was told and counted
live_told : (old mid new : ModelTable) (journal : List Entry) (e : Entry) (ends starts : Bool) → ends ≡ ends_in old e → (mid.started + 1 < 2 ^ 32 → starts ≡ starts_in mid e)
    → IsTold old mid e → IsTallied mid new e ends starts → IsIndexOf old journal → length journal < 2 ^ 31 → new.live ≡ length (live_runs (journal ++ e ∷ []))
live_told old mid new journal e ends starts ends_is starts_is told tallied is few =
    let runs = count_by-le-length (λ (x : Entry). is_started x.reply) journal in
    let enough = few_lives journal in
    let so_far = told.live ∙ is.live in
    let counted_is = tallied.live (omega (arith, so_far, enough, runs, few)) in
    let lives = lives_noted journal e in
    let ending : ends ≡ option_map_or (λ r. nat_lt r (run_count journal) && not (is_finished r journal)) (ender e.run e.call) false
    = ends_is ∙ map_or_same (λ (r : ℕ). is_live_in old r) (λ (r : ℕ). nat_lt r (run_count journal) && not (is_finished r journal)) (ender e.run e.call) false
    (λ r. live_is old journal r is) in
    let number : mid.started + 1 ≡ run_count journal = ap (λ n. n + 1) (told.started ∙ is.started) in
    let next = run_noted (mid.started + 1) old (run_at mid (mid.started + 1)) journal e (told.runs (mid.started + 1)) is in
    let small : mid.started + 1 < 2 ^ 32 = (let m = told.started ∙ is.started in omega (arith, m, runs, few)) in
    let starting : starts ≡ (is_started e.reply && not (is_finished (run_count journal) (journal ++ e ∷ [])))
    = starts_is small ∙ ap (λ b. is_started e.reply && not b) (next.ended ∙ ap (λ k. is_finished k (journal ++ e ∷ [])) number) in
    let one = ap as_number ending in
    let other = ap as_number starting in
    let before = lives.before in
    let after = lives.after in
    omega (arith, so_far, counted_is, one, other, before, after)

-- a table that has noted an entry
pub noted : (old mid new : ModelTable) (journal : List Entry) (e : Entry) (ends starts : Bool) → ends ≡ ends_in old e → (mid.started + 1 < 2 ^ 32 → starts ≡ starts_in mid e)
    → IsTold old mid e → IsTallied mid new e ends starts → IsIndexOf old journal → length journal < 2 ^ 31
    → IsIndexOf new (journal ++ e ∷ [])
noted old mid new journal e ends starts ends_is starts_is told tallied is few = record {
  count = counted _ mid.count journal e tallied.count (told.count ∙ is.count) few;
  models = λ m. subst (λ x. IsModelOf x m (journal ++ e ∷ [])) (sym (tallied.models m)) (model_noted m (model_at old m) (model_at mid m) journal e (told.models m) (is.models m));
  runs = λ k. subst (λ x. IsRunOf x k (journal ++ e ∷ [])) (sym (tallied.runs k)) (run_noted k old (run_at mid k) journal e (told.runs k) is);
  lanes = λ l. subst (λ x. IsLaneOf x l (journal ++ e ∷ [])) (sym (tallied.lanes l)) (lane_noted l (lane_at old l) (lane_at mid l) journal e (told.lanes l) (is.lanes l));
  images = λ file. tallied.images file
      ∙ told.images file
      ∙ (λ j. if makes_image file e then Some (is.count j) else is.images file j)
      ∙ sym (last_place-snoc (makes_image file) journal e);
  loads = count_noted (λ (x : Entry). is_loading x.reply) mid.loads new.loads journal e tallied.loads (told.loads ∙ is.loads) few;
  started = count_noted (λ (x : Entry). is_started x.reply) mid.started new.started journal e tallied.started (told.started ∙ is.started) few;
  claimed = count_noted (λ (x : Entry). gives_run x.reply) mid.claimed new.claimed journal e tallied.claimed (told.claimed ∙ is.claimed) few;
  live = live_told old mid new journal e ends starts ends_is starts_is told tallied is few;
  quit = tallied.quit ∙ ap (λ b. b || is_quit e.call) (told.quit ∙ is.quit) ∙ sym (any-snoc (λ (x : Entry). is_quit x.call) journal e);
}
