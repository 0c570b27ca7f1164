use Rattle.std.proofs.Common.{◌≡◌, ◌++◌, codes, map}
use Rattle.wfe_draw_page.specs.Markup.{plain_of}
use Rattle.wfe_draw_page.specs.Pages.{size_text}
use Rattle.wfe_draw_page.specs.Within.{width_of}
use Rattle.wfe_draw_page.specs.declared.page.TheConstants.{STYLE}
use Rattle.wfe_draw_page.proofs.Plains.{words_plain}
use Rattle.wfe_draw_page.proofs.Texts.{begun-text}
use Rattle.wfe_draw_page.proofs.page.begun.Goals as goal

pub returns : goal.returns
returns c =
    let sized : c.put_size.new.page.items ≡ c.new-page.result.items ++ size_text (width_of c.args.grid.now) c.args.grid.now.height = rw (← c.width.ensures) c.in_ok-put_size.ensures in
    record {
      style = map plain_of STYLE.now;
      plain = words_plain STYLE.now;
      are = begun-text c.new-page.result.items c.put_size.new.page.items c.put_words.new.page.items c.put.new.page.items (size_text (width_of c.args.grid.now) c.args.grid.now.height)
          (map plain_of STYLE.now) (codes "</style>") c.new-page.ensures.items sized c.in_ok-put_words.ensures c.in_ok-put.ensures;
    }
