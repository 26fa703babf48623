-- Every source is accepted or refused, never both, never neither.

use Rattle.std.proofs.Common.{◌≡◌, ℕ, List, Option, Some, None, refl, inl, inr}
use Rattle.std.specs.Prelude.{◌⊎◌}
use Rattle.mos_text.specs.declared.kind.Kind.{Kind}
use Rattle.mos_tree.specs.declared.source.Tree.{Tree}
use Rattle.mos_parse.specs.Parsed.{IsParsed}
use Rattle.mos_parse.specs.Laws.{NoSourceHasNeither, NoSourceHasBoth, SourcesHaveOneTree, SourcesHaveOneFault}
use Rattle.mos_check.specs.NotBuilt.{unbuilt_of}
use Rattle.mos_check.specs.Names.{Knows, Wrong, check_of}
use Rattle.mosel_run.specs.Accepted.{IsRefusedAt, unparsed, wrong, not_built, found}
use Rattle.mosel_run.specs.Laws.{HasATree, HasAFault, IsJudgedSource, NoSourceIsNeither, AcceptedHaveOneTree, RefusedHaveOneFault}
use Rattle.mosel_run.proofs.Refusals.{Same, HasOnly, one-wrong, wrong-there, sound-only_refusal}

-- ---- by what is found of the tree

checked : (source : List ℕ) (tree : Tree) → IsParsed source tree → unbuilt_of tree ≡ None → (c : _) → check_of tree ≡ c → IsJudgedSource source
checked source tree parsed built (Knows names) e = inl (tree, record { parsed = parsed; sound = record { built = built; checked = record { names = names; known = e } } })
checked source tree parsed built (Wrong line kind) e = inr (line, kind, wrong source line kind tree parsed (found tree line kind built e))

judged : (source : List ℕ) (tree : Tree) → IsParsed source tree → (u : Option (ℕ × Kind)) → unbuilt_of tree ≡ u → IsJudgedSource source
judged source tree parsed None e = checked source tree parsed e _ refl
judged source tree parsed (Some first) e = inr (first.0, first.1, wrong source first.0 first.1 tree parsed (not_built tree first.0 first.1 e))

pub judged_by : (source : List ℕ) → HasATree source ⊎ HasAFault source → IsJudgedSource source
judged_by source (inl t) = judged source t.0 t.1 _ refl
judged_by source (inr f) = inr (f.0, f.1, unparsed source f.0 f.1 f.2)

-- ---- never neither

pub not_neither : NoSourceHasNeither → NoSourceIsNeither
not_neither law source no_tree no_refusal =
    law source (λ tree h. of_judged (judged source tree h _ refl)) (λ line kind h. no_refusal line kind (unparsed source line kind h))
  where
    of_judged : IsJudgedSource source → ⊥
    of_judged (inl t) = no_tree t.0 t.1
    of_judged (inr r) = no_refusal r.0 r.1 r.2

-- ---- never both

has_only : NoSourceHasBoth → SourcesHaveOneTree → (source : List ℕ) (tree : Tree) → IsParsed source tree → HasOnly source tree
has_only both one source tree h = record { parsed = h; only = λ other k. one source tree other h k; only_fault = λ line kind f. both source tree line kind h f }

pub accepted_once : NoSourceHasBoth → SourcesHaveOneTree → AcceptedHaveOneTree
accepted_once both one source tree h = record {
  one = λ other k. one source tree other h.parsed k.parsed;
  never = sound-only_refusal source tree (has_only both one source tree h.parsed) h.sound;
}

one_refusal : NoSourceHasBoth → SourcesHaveOneTree → SourcesHaveOneFault → (source : List ℕ) (line at : ℕ) (kind what : Kind) → IsRefusedAt source line kind → IsRefusedAt source at what → Same line kind at what
one_refusal both one fault _ _ at _ what (unparsed source line kind h) (unparsed _ _ _ k) = fault source line at kind what h k
one_refusal both one fault _ _ _ _ _ (unparsed source line kind h) (wrong _ _ _ tree k w) = absurd (both source tree line kind k h)
one_refusal both one fault _ _ at _ what (wrong source line kind tree h w) refused =
    one-wrong tree line at kind what w (wrong-there source tree at what (has_only both one source tree h) refused)

pub refused_once : NoSourceHasBoth → SourcesHaveOneTree → SourcesHaveOneFault → RefusedHaveOneFault
refused_once both one fault source line kind h = record {
  one = λ at what k. one_refusal both one fault source line at kind what h k;
  never = λ tree k. (accepted_once both one source tree k).never line kind h;
}
