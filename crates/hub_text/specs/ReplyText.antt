-- The text of a reply, as a report writes it.
use Rattle.std.specs.Prelude.{ℕ, List, ◌++◌, true, false, codes}
use Rattle.std.specs.Fmt.{signed_decimal}
use Rattle.mos_text.specs.FaultKinds.{fault_word}
use Rattle.job_calls.specs.declared.reply.Reply.{Reply}
use Rattle.job_calls.specs.declared.reply.Reply.TheVariants.{Opened, Claimed, Done, Code, Loaded, Started, Unit as UnitReply, Took, Seen, Nothing, Flag, Queued, Lost, Number, Found, Session, Bytes, PipeEnd, Halt, Fault}
use Rattle.hub_text.specs.Quoting.{hex_text, with_number}

-- what follows from the call, the files and earlier entries is left out: a run's source and parameter text, an event's
-- class and value, the bytes of what was read
unfoldable pub reply_text : Reply → List ℕ
reply_text Opened = codes "opened"
reply_text (Claimed run source params) = with_number (codes "claimed") run
reply_text Done = codes "done"
reply_text (Code n) = with_number (codes "code") n
reply_text (Loaded model source) = with_number (codes "loaded") model
reply_text (Started run) = with_number (codes "started") run
reply_text UnitReply = codes "unit"
reply_text (Took place class value) = with_number (codes "took") place.0
reply_text (Seen place class value) = with_number (codes "seen") place.0
reply_text Nothing = codes "nothing"
reply_text (Flag true) = codes "true"
reply_text (Flag false) = codes "false"
reply_text (Queued run) = with_number (codes "queued") run
reply_text Lost = codes "lost"
reply_text (Number n) = codes "number " ++ signed_decimal n
reply_text (Found place bytes) = with_number (codes "found") place.0
reply_text (Session place) = with_number (codes "session") place.0
reply_text (Bytes bytes) = codes "bytes " ++ hex_text bytes
reply_text PipeEnd = codes "end"
reply_text Halt = codes "halt"
reply_text (Fault kind) = codes "fault " ++ fault_word kind
