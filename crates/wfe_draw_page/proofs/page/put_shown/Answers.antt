use Rattle.std.proofs.Common.{◌*◌, codes, length, map, refl, ap, sym}
use Rattle.std.proofs.lemmas.List.{length-map}
use Rattle.std.proofs.lemmas.Result.{on_ok_weaker}
use Rattle.wfe_draw_page.specs.Markup.{plain_of}
use Rattle.wfe_draw_page.specs.Pages.{Shown, bar_text, base_text, head_text}
use Rattle.wfe_draw_page.proofs.Plains.{words_plain}
use Rattle.wfe_draw_page.proofs.Texts.{mark-text, six}
use Rattle.wfe_draw_page.proofs.page.put_shown.Goals as goal

pub returns : goal.returns
returns c =
    let mark = c.args.mark.now in
    let title = map plain_of c.args.title.now in
    let label = map plain_of c.args.label.now in
    let wide = 6 * length c.args.label.now in
    let s : Shown = record { shade = mark.bar.shade; frame = mark.frame; title = title; label = label } in
    on_ok_weaker c.put.result
    (λ last. record {
      shown = s;
      frame = refl;
      shade = refl;
      is = record { title = words_plain c.args.title.now; label = words_plain c.args.label.now; fits = rw (length-map c.args.label.now plain_of) c.requires.fits };
      text = mark-text c.args.page.now.items c.put.new.page.items s wide (ap (λ n. 6 * n) (sym (length-map c.args.label.now plain_of)))
          (six c.args.page.now.items c.put_head.new.page.items c.put_words.new.page.items c.put_bar.new.page.items c.put_base.new.page.items c.put_words-2.new.page.items c.put.new.page.items
          (head_text mark.bar.shade) title (bar_text mark.frame) (base_text mark.frame wide) label (codes "</text>\n</g>")
          c.in_ok-put_head.ensures c.in_ok-put_words.ensures c.in_ok-put_bar.ensures c.in_ok-put_base.ensures c.in_ok-put_words-2.ensures last);
    }) c.put.ensures
