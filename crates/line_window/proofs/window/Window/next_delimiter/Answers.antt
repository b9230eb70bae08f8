use Rattle.std.proofs.Common.{◌-◌, length, take, drop, ap, subst}
use Rattle.line_window.specs.Delimiters.{HasNone, IsFirstAt}
use Rattle.line_window.specs.Sliding.{View}
use Rattle.line_window.proofs.DelimiterLaws.{next_found, next_none}
use Rattle.line_window.proofs.window.Window.next_delimiter.Goals as goal

pub returns-in_default : goal.returns-in_default
returns-in_default c =
    let shown = c.bytes_ahead-bytes.result.now in
    let rest = take (length shown - c.args.scanned) (drop c.args.scanned shown) in
    next_none c.args.self.now.delimiter _ shown c.args.scanned c.bytes_ahead-bytes.ensures.value c.requires.within c.requires.clear
    (subst (λ d. HasNone d rest (length rest)) (ap (λ (v : View). v.delimiter) c.self.view_is) c.in_default.ensures)

pub returns : goal.returns
returns c =
    let shown = c.bytes_ahead-bytes.result.now in
    let rest = take (length shown - c.args.scanned) (drop c.args.scanned shown) in
    next_found c.args.self.now.delimiter _ shown c.args.scanned c.in-Some.at c.bytes_ahead-bytes.ensures.value c.requires.clear
    (subst (λ d. IsFirstAt d rest c.in-Some.at) (ap (λ (v : View). v.delimiter) c.self.view_is) c.in-Some.ensures)
