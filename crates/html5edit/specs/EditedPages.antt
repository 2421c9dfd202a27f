-- Where the program's filter stands.
use Rattle.html5edit.specs.Pages.{Edited}
use Rattle.html5edit.specs.declared.edit_pages.EditPages.{EditPages}

abbrev pub edited_of : {W : Type 0} → EditPages W → Edited
edited_of pages = record { printed = pages.printer.printed; changes = pages.changes; bases = pages.bases }
