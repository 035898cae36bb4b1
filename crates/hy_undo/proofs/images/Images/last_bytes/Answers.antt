use Rattle.std.proofs.Common.{◌-◌, [], length, take, sym, ap, ◌∙◌}
use Rattle.hy_undo.specs.UndoLog.{Image}
use Rattle.hy_undo.specs.inside.Pieces.{last_bytes}
use Rattle.hy_undo.proofs.SpliceLaws.{last_bytes-push}
use Rattle.hy_undo.proofs.images.Images.last_bytes.Goals as goal

pub returns : goal.returns
returns c =
    let last : Image = record { segment = c.last.result.segment; page = c.last.result.page; offset = c.last.result.offset; bytes = c.last.result.bytes.now } in
    sym (ap last_bytes c.last.ensures ∙ last_bytes-push [] (take (length c.args.self.now - 1) c.args.self.now) last)
