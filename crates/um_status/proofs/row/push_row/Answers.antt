use Rattle.std.proofs.Common.{◌++◌, codes, string_bytes, ap, ◌∙◌}
use Rattle.um_status.specs.Status.{cell_text}
use Rattle.um_status.specs.View.{row_view, widths_view}
use Rattle.um_status.proofs.Pieces.{piece, piece_of}
use Rattle.um_status.proofs.row.push_row.Goals as goal

pub returns : goal.returns
returns c =
    let w = widths_view c.args.widths in
    let r = row_view c.args.row.now in
    let all = string_bytes c.push_str-3.new.self in
    let unit = string_bytes c.push_cell.new.text in
    let loaded = string_bytes c.push_cell-2.new.text in
    let state = string_bytes c.push_cell-3.new.text in
    let result = string_bytes c.push_cell-4.new.text in
    let pid = string_bytes c.push_cell-5.new.text in
    let job = string_bytes c.push_str.new.self in
    let line = string_bytes c.push_str-2.new.self in
    let behind_job = codes "\n" ++ r.details in
    let behind_pid = r.job ++ behind_job in
    let behind_result = cell_text w.pid r.pid ++ behind_pid in
    let behind_state = cell_text w.result r.result ++ behind_result in
    let behind_loaded = cell_text w.state r.state ++ behind_state in
    let behind_unit = cell_text w.loaded r.loaded ++ behind_loaded in
    let from_details = c.in_ok-push_str-3.ensures.bytes ∙ ap (λ t. line ++ t) c.as_str-7.ensures.value in
    let from_line = piece job (codes "\n") line r.details all c.in_ok-push_str-2.ensures.bytes from_details in
    let from_job = piece_of (λ t. t) pid r.job _ job behind_job all c.as_str-6.ensures.value c.in_ok-push_str.ensures.bytes from_line in
    let from_pid = piece_of (cell_text w.pid) result r.pid _ pid behind_pid all c.as_str-5.ensures.value c.in_ok-push_cell-5.ensures from_job in
    let from_result = piece_of (cell_text w.result) state r.result _ result behind_result all c.as_str-4.ensures.value c.in_ok-push_cell-4.ensures from_pid in
    let from_state = piece_of (cell_text w.state) loaded r.state _ state behind_state all c.as_str-3.ensures.value c.in_ok-push_cell-3.ensures from_result in
    let from_loaded = piece_of (cell_text w.loaded) unit r.loaded _ loaded behind_loaded all c.as_str-2.ensures.value c.in_ok-push_cell-2.ensures from_state in
    piece_of (cell_text w.unit) (string_bytes c.args.text.now) r.unit _ unit behind_unit all c.as_str.ensures.value c.in_ok-push_cell.ensures from_loaded
