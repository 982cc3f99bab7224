use Rattle.std.proofs.Common.{◌≡◌, string_bytes, refl, ap, ◌∙◌}
use Rattle.serde_json.proofs.Views.{members_view-insert_entry}
use Rattle.serde_json.specs.Data.{put, string}
use Rattle.serde_json.specs.View.{members_view, view}
use Rattle.serde_json.specs.declared.value.Value.{String as Text}
use Rattle.um_ctl.proofs.Members.{view-String}
use Rattle.um_ctl.proofs.writing.tell.Goals as goal

pub returns : goal.returns
returns c =
    let ms = members_view c.args.members.now.entries in
    let named : put (string_bytes c.in_ok-name.name) (view (Text c.in_ok-text.text)) ms ≡ put c.args.name.now (string c.args.text.now) ms =
    rw (c.in_ok-name.ensures.ok, view-String c.in_ok-text.text, c.in_ok-text.ensures.ok) refl in
    ap members_view c.in_ok-insert.ensures.entries ∙ members_view-insert_entry c.args.members.now.entries c.in_ok-name.name (Text c.in_ok-text.text) ∙ named
