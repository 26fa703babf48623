-- In the midst of a part: what was made so far, with what is still to come, is the whole.

use Rattle.std.proofs.Common.{◌≡◌, ◌≤◌, ◌++◌, ◌+◌, length}
use Rattle.bim_compile.specs.declared.draft.Draft.{Draft}
use Rattle.bim_compile.specs.Parts.{Part}

-- a draft becomes by the rest what the one before becomes by the whole
pub record StillEmits (rest : Part) (draft : Draft) (whole : Part) (before : Draft) : Type 0 where
  pub code : draft.code ++ rest.code (length draft.constants) draft.at ≡ before.code ++ whole.code (length before.constants) before.at
  pub constants : draft.constants ++ rest.texts ≡ before.constants ++ whole.texts
  pub at : rest.end draft.at ≡ whole.end before.at
  pub within : draft.at + rest.most ≤ before.at + whole.most
