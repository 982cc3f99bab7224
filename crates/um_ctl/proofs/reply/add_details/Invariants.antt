use Rattle.std.proofs.Common.{◌≡◌, ◌++◌, flat_map, map, take, string_bytes}
use Rattle.serde_json.specs.View.{view}
use Rattle.um_ctl.specs.Told.{spaced, texts_in}
use Rattle.um_ctl.proofs.reply.add_details.Given as goal

-- the details so far follow the text
abbrev pub invariant-loop-detail : goal.invariant-loop-detail
invariant-loop-detail l =
    string_bytes l.text ≡ string_bytes l.initial.text ++ flat_map spaced (texts_in (map view (take l.detail-index l.details)))
