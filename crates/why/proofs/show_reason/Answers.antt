-- `show_reason` meets its contract: it writes the thread's line, and nothing of a thread that is not there.
use Rattle.std.proofs.Common.{List, ℕ, OnOk, subst}
use Rattle.std.specs.Io.KnownBytes.{Appends}
use Rattle.std.proofs.KnownBytes.{Appends-nil}
use Rattle.why.proofs.Told.{told}
use Rattle.why.proofs.show_reason.Goals as goal

pub returns-in-Ok : goal.returns-in-Ok
returns-in-Ok g c =
    let a = c.args in
    subst (λ (text : List ℕ). OnOk c.write_line.result (Appends (g.W.Write.contents a.out.now) (g.W.Write.contents c.write_line.new.out) text))
    (told a.system.now a.position a.thread _ c.in-Ok.ensures.text) c.write_line.ensures

pub returns-in-Err : goal.returns-in-Err
returns-in-Err g c =
    let a = c.args in
    subst (λ (text : List ℕ). Appends (g.W.Write.contents a.out.now) (g.W.Write.contents a.out.now) text)
    (told a.system.now a.position a.thread _ c.in-Err.ensures.text) (Appends-nil (g.W.Write.contents a.out.now))
