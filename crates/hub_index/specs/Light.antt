-- Which calls leave entries that indexes take without memory.

use Rattle.std.specs.Prelude.{Bool, true, false}
use Rattle.job_calls.specs.declared.call.Call.{Call}
use Rattle.job_calls.specs.declared.call.Call.TheVariants.{Claim, Quit, Finish, Wait, Peek, IsEmpty}

-- no index needs room for an entry of this call
abbrev pub is_light : Call → Bool
is_light Claim = true
is_light Quit = true
is_light (Finish end) = true
is_light Wait = true
is_light Peek = true
is_light IsEmpty = true
is_light _ = false
