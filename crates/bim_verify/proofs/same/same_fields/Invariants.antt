-- the rest decides
use Rattle.std.proofs.Common.{◌≡◌, drop}
use Rattle.bim_verify.specs.Kinds.{same_all, same_field}
use Rattle.bim_verify.proofs.same.same_fields.Given as goal

abbrev pub invariant-loop-field : goal.invariant-loop-field
invariant-loop-field l = same_all (same_field l.image) (drop l.field-index l.fields) l.rest ≡ same_all (same_field l.image) l.fields l.others
