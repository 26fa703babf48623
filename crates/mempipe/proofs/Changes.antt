-- Pipes of which one was changed, or made known.

use Rattle.std.proofs.Common.{◌≡◌, ◌<◌, ◌≤◌, ◌+◌, ℕ, Bool, true, false, cond, List, [], ◌∷◌, arith, Option, Some, None, refl, sym, ap, subst, ◌∙◌, length, true≢false, is_some}
use Rattle.std.specs.Option.{option_map_or}
use Rattle.std.specs.Str.{bytes_eq}
use Rattle.std.proofs.lemmas.Slice.Eq.{bytes_eq-Decides}
use Rattle.indexmap.specs.IndexMap.{get_by_text}
use Rattle.job_calls.specs.declared.entry.Entry.{Entry}
use Rattle.job_calls.specs.Pipes.{put_by}
use Rattle.mempipe.specs.declared.ends.Ends.{Ends}
use Rattle.mempipe.specs.declared.untaken.Untaken.TheVariants.{Counted}
use Rattle.mempipe.specs.declared.state.State.{State}
use Rattle.mempipe.specs.declared.pipes.Pipes.{Pipes}
use Rattle.mempipe.specs.Bytes.{IsUntaken, IsHere, CanHold}
use Rattle.mempipe.specs.States.{named_pipe, no_ends, ends_after, bytes_after}
use Rattle.mempipe.specs.Pipes.{ends_at, untaken_at, SayTheSame, CanTell, AreAfter}
use Rattle.mempipe.proofs.Touches.{IsUntouched, other_call, no_call, ends_stay, bytes_stay}

-- a name that was found is not missing
pub clash : (found : Bool) (find : List ℕ → Bool) (said name : List ℕ) → found ≡ false → found ≡ find said → said ≡ name → find name ≡ true → ⊥
clash found find said name missed is same known = true≢false (sym known ∙ ap find (sym same) ∙ sym is ∙ missed)

-- what is said of a name that was missing, once it is known with nothing to say
pub nothing_more : {A : Type 0} (said : State → A) (fresh : State) (b : Bool) (o : Option State) → (b ≡ true → is_some o ≡ false)
    → option_map_or said (cond b (Some fresh) o) (said fresh) ≡ option_map_or said o (said fresh)
nothing_more said fresh true None none = refl
nothing_more said fresh true (Some x) none = absurd (true≢false (none refl))
nothing_more said fresh false o none = refl

-- pipes that are equal at each name say the same
pub all_same : (old new : Pipes) → ((name : List ℕ) → ends_at name new ≡ ends_at name old) → ((name : List ℕ) → untaken_at name new ≡ untaken_at name old)
    → SayTheSame old new
all_same old new ends untaken =
    record {
      ends = ends;
      bytes = λ name bytes. subst (λ u. IsUntaken u bytes) (sym (untaken name));
      here = λ name. subst IsHere (sym (untaken name));
      room = λ name. subst CanHold (sym (untaken name));
    }

-- the state at a name that is known
pub ends_known : (pipes : Pipes) (name : List ℕ) (state : State) → get_by_text pipes.pipes name ≡ Some state → ends_at name pipes ≡ state.ends
ends_known pipes name state is = ap (λ o. option_map_or (λ (s : State). s.ends) o no_ends) is

pub untaken_known : (pipes : Pipes) (name : List ℕ) (state : State) → get_by_text pipes.pipes name ≡ Some state → untaken_at name pipes ≡ state.untaken
untaken_known pipes name state is = ap (λ o. option_map_or (λ (s : State). s.untaken) o (Counted 0)) is

pub untaken_unknown : (pipes : Pipes) (name : List ℕ) → get_by_text pipes.pipes name ≡ None → untaken_at name pipes ≡ Counted 0
untaken_unknown pipes name is = ap (λ o. option_map_or (λ (s : State). s.untaken) o (Counted 0)) is

-- at one name another state stands, and all others stay
pub record IsSetAt (old new : Pipes) (name : List ℕ) (before after : State) : Type 0 where
  pub was : get_by_text old.pipes name ≡ Some before
  pub is : (q : List ℕ) → get_by_text new.pipes q ≡ cond (bytes_eq name q) (Some after) (get_by_text old.pipes q)

-- a name, and whether it is this one
data Which (old new : Pipes) (name : List ℕ) (before after : State) (q : List ℕ) : Type 0 where
  this : name ≡ q → get_by_text old.pipes q ≡ Some before → get_by_text new.pipes q ≡ Some after → Which old new name before after q
  that : bytes_eq name q ≡ false → get_by_text new.pipes q ≡ get_by_text old.pipes q → Which old new name before after q

which : (old new : Pipes) (name : List ℕ) (before after : State) → IsSetAt old new name before after → (q : List ℕ) → Which old new name before after q
which old new name before after set q = by (bytes_eq name q) refl where
  by : (b : Bool) → bytes_eq name q ≡ b → Which old new name before after q
  by true e =
      let same = (bytes_eq-Decides name q).0 e in
      this same (ap (get_by_text old.pipes) (sym same) ∙ set.was) (set.is q ∙ ap (λ b. cond b (Some after) (get_by_text old.pipes q)) e)
  by false e = that e (set.is q ∙ ap (λ b. cond b (Some after) (get_by_text old.pipes q)) e)

-- the states say the same
pub record SameState (before after : State) : Type 0 where
  pub ends : after.ends ≡ before.ends
  pub bytes : (bytes : List ℕ) → IsUntaken before.untaken bytes → IsUntaken after.untaken bytes
  pub here : IsHere before.untaken → IsHere after.untaken
  pub room : CanHold before.untaken → CanHold after.untaken

same_at : (old new : Pipes) (name : List ℕ) (before after : State) → SameState before after → (q : List ℕ) → Which old new name before after q
    → (ends_at q new ≡ ends_at q old) × ((bytes : List ℕ) → IsUntaken (untaken_at q old) bytes → IsUntaken (untaken_at q new) bytes)
    × (IsHere (untaken_at q old) → IsHere (untaken_at q new)) × (CanHold (untaken_at q old) → CanHold (untaken_at q new))
same_at old new name before after same q (this e was is) =
    let u_was = untaken_known old q before was in
    let u_is = untaken_known new q after is in (
      ends_known new q after is ∙ same.ends ∙ sym (ends_known old q before was),
      λ bytes h. subst (λ u. IsUntaken u bytes) (sym u_is) (same.bytes bytes (subst (λ u. IsUntaken u bytes) u_was h)),
      λ h. subst IsHere (sym u_is) (same.here (subst IsHere u_was h)),
      λ h. subst CanHold (sym u_is) (same.room (subst CanHold u_was h)),
    )
same_at old new name before after same q (that e is) =
    let u_is : untaken_at q new ≡ untaken_at q old = ap (λ o. option_map_or (λ (s : State). s.untaken) o (Counted 0)) is in (
      ap (λ o. option_map_or (λ (s : State). s.ends) o no_ends) is,
      λ bytes. subst (λ u. IsUntaken u bytes) (sym u_is),
      subst IsHere (sym u_is),
      subst CanHold (sym u_is),
    )

-- where one state was changed that says the same, all say the same
pub set_same : (old new : Pipes) (name : List ℕ) (before after : State) → IsSetAt old new name before after → SameState before after → SayTheSame old new
set_same old new name before after set same =
    let at = λ (q : List ℕ). same_at old new name before after same q (which old new name before after set q) in
    record { ends = λ q. (at q).0; bytes = λ q. (at q).1; here = λ q. (at q).2; room = λ q. (at q).3 }

-- the entry was told of the pipe of this name
pub record IsTold (name : List ℕ) (before after : State) (e : Entry) (place : ℕ) : Type 0 where
  pub ends : after.ends ≡ ends_after name place before.ends e
  pub bytes : (bytes : List ℕ) → IsUntaken before.untaken bytes → length bytes + length (put_by name e.call e.reply) ≤ 4096
      → IsUntaken after.untaken (bytes_after name bytes e)
  pub here : (is_some before.ends.reader ≡ true → IsHere before.untaken) → (0 < length (put_by name e.call e.reply) → CanHold before.untaken)
      → is_some after.ends.reader ≡ true → IsHere after.untaken

-- the entry was told, at one name
record IsAfter (old new : Pipes) (e : Entry) (place : ℕ) (name : List ℕ) : Type 0 where
  pub ends : ends_at name new ≡ ends_after name place (ends_at name old) e
  pub bytes : (bytes : List ℕ) → IsUntaken (untaken_at name old) bytes → length bytes + length (put_by name e.call e.reply) ≤ 4096
      → IsUntaken (untaken_at name new) (bytes_after name bytes e)
  pub here : (is_some (ends_at name old).reader ≡ true → IsHere (untaken_at name old))
      → is_some (ends_at name new).reader ≡ true → IsHere (untaken_at name new)

all_after : (old new : Pipes) (e : Entry) (place : ℕ) → ((name : List ℕ) → IsAfter old new e place name) → AreAfter old new e place
all_after old new e place at =
    record { ends = λ name. (at name).ends; bytes = λ name. (at name).bytes; here = λ name. (at name).here }

-- nothing was told of the name
stays : (old new : Pipes) (e : Entry) (place : ℕ) (name : List ℕ) → IsUntouched name e.call e.reply → ends_at name new ≡ ends_at name old
    → untaken_at name new ≡ untaken_at name old → IsAfter old new e place name
stays old new e place name none ends untaken =
    record {
      ends = ends ∙ sym (ends_stay name place (ends_at name old) e none);
      bytes = λ bytes h few. subst (IsUntaken (untaken_at name new)) (sym (bytes_stay name bytes e none)) (subst (λ u. IsUntaken u bytes) (sym untaken) h);
      here = λ h reads. subst IsHere (sym untaken) (h (ap (λ (x : Ends). is_some x.reader) (sym ends) ∙ reads));
    }

told_at : (old new : Pipes) (e : Entry) (place : ℕ) (name : List ℕ) (before after : State) → IsTold name before after e place → CanTell old e
    → named_pipe e.call ≡ Some name → (q : List ℕ) → Which old new name before after q → IsAfter old new e place q
told_at old new e place name before after told can named q (this same was is) =
    let at : IsTold q before after e place = subst (λ n. IsTold n before after e place) same told in
    let e_was = ends_known old q before was in
    let e_is = ends_known new q after is in
    let u_was = untaken_known old q before was in
    let u_is = untaken_known new q after is in
    record {
      ends = e_is ∙ at.ends ∙ ap (λ x. ends_after q place x e) (sym e_was);
      bytes = λ bytes h few. subst (λ u. IsUntaken u (bytes_after q bytes e)) (sym u_is) (at.bytes bytes (subst (λ u. IsUntaken u bytes) u_was h) few);
      here = λ h reads. subst IsHere (sym u_is) (at.here
          (λ r. subst IsHere u_was (h (ap (λ (x : Ends). is_some x.reader) e_was ∙ r)))
          (λ some. subst CanHold u_was (can.room q some))
          (ap (λ (x : Ends). is_some x.reader) (sym e_is) ∙ reads));
    }
told_at old new e place name before after told can named q (that apart is) =
    stays old new e place q (other_call q e.call e.reply name named apart)
    (ap (λ o. option_map_or (λ (s : State). s.ends) o no_ends) is) (ap (λ o. option_map_or (λ (s : State). s.untaken) o (Counted 0)) is)

-- an entry that was told of the pipe that it speaks of
pub one_told : (old new : Pipes) (e : Entry) (place : ℕ) (name : List ℕ) (before after : State) → IsSetAt old new name before after
    → IsTold name before after e place → CanTell old e → named_pipe e.call ≡ Some name → AreAfter old new e place
one_told old new e place name before after set told can named =
    all_after old new e place (λ q. told_at old new e place name before after told can named q (which old new name before after set q))

-- an entry that speaks of none
pub none_told : (pipes : Pipes) (e : Entry) (place : ℕ) → named_pipe e.call ≡ None → AreAfter pipes pipes e place
none_told pipes e place none = all_after pipes pipes e place (λ q. stays pipes pipes e place q (no_call q e.call e.reply none) refl refl)

-- no bytes are none
pub no_bytes : (bytes : List ℕ) → 0 ≡ length bytes → [] ≡ bytes
no_bytes [] e = refl
no_bytes (x ∷ xs) e = absurd (omega (arith, e))
