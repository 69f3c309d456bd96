-- The page's files: the path, the kind and the bytes of each, as `tools/embed` puts them here.
use Rattle.std.specs.Prelude.{◌≢◌, ℕ, List, codes}
use Rattle.cam6_web_page.specs.declared.files.File.{File}
use Rattle.cam6_web_page.specs.declared.files.File.TheVariants as file
use Rattle.cam6_web_page.specs.declared.kinds.Kind.{Kind}
use Rattle.cam6_web_page.specs.declared.kinds.Kind.TheVariants as kind
use Rattle.cam6_web_page.specs.declared.texts.index_html.TheConstants as index_html
use Rattle.cam6_web_page.specs.declared.texts.app_js.TheConstants as app_js
use Rattle.cam6_web_page.specs.declared.texts.controls_js.TheConstants as controls_js
use Rattle.cam6_web_page.specs.declared.texts.cycle_js.TheConstants as cycle_js
use Rattle.cam6_web_page.specs.declared.texts.dial_js.TheConstants as dial_js
use Rattle.cam6_web_page.specs.declared.texts.dom_js.TheConstants as dom_js
use Rattle.cam6_web_page.specs.declared.texts.editor_js.TheConstants as editor_js
use Rattle.cam6_web_page.specs.declared.texts.explain_js.TheConstants as explain_js
use Rattle.cam6_web_page.specs.declared.texts.faults_js.TheConstants as faults_js
use Rattle.cam6_web_page.specs.declared.texts.files_js.TheConstants as files_js
use Rattle.cam6_web_page.specs.declared.texts.film_js.TheConstants as film_js
use Rattle.cam6_web_page.specs.declared.texts.forth_js.TheConstants as forth_js
use Rattle.cam6_web_page.specs.declared.texts.gallery_js.TheConstants as gallery_js
use Rattle.cam6_web_page.specs.declared.texts.gallery_menu_js.TheConstants as gallery_menu_js
use Rattle.cam6_web_page.specs.declared.texts.gestures_js.TheConstants as gestures_js
use Rattle.cam6_web_page.specs.declared.texts.help_js.TheConstants as help_js
use Rattle.cam6_web_page.specs.declared.texts.host_js.TheConstants as host_js
use Rattle.cam6_web_page.specs.declared.texts.journal_js.TheConstants as journal_js
use Rattle.cam6_web_page.specs.declared.texts.keys_js.TheConstants as keys_js
use Rattle.cam6_web_page.specs.declared.texts.lines_js.TheConstants as lines_js
use Rattle.cam6_web_page.specs.declared.texts.link_js.TheConstants as link_js
use Rattle.cam6_web_page.specs.declared.texts.machine_js.TheConstants as machine_js
use Rattle.cam6_web_page.specs.declared.texts.palette_js.TheConstants as palette_js
use Rattle.cam6_web_page.specs.declared.texts.panel_js.TheConstants as panel_js
use Rattle.cam6_web_page.specs.declared.texts.patterns_js.TheConstants as patterns_js
use Rattle.cam6_web_page.specs.declared.texts.piece_js.TheConstants as piece_js
use Rattle.cam6_web_page.specs.declared.texts.planes_js.TheConstants as planes_js
use Rattle.cam6_web_page.specs.declared.texts.queue_js.TheConstants as queue_js
use Rattle.cam6_web_page.specs.declared.texts.screen_js.TheConstants as screen_js
use Rattle.cam6_web_page.specs.declared.texts.shapes_js.TheConstants as shapes_js
use Rattle.cam6_web_page.specs.declared.texts.storage_js.TheConstants as storage_js
use Rattle.cam6_web_page.specs.declared.texts.style_css.TheConstants as style_css
use Rattle.cam6_web_page.specs.declared.texts.tools_js.TheConstants as tools_js
use Rattle.cam6_web_page.specs.declared.texts.torus_js.TheConstants as torus_js
use Rattle.cam6_web_page.specs.declared.texts.trouble_js.TheConstants as trouble_js
use Rattle.cam6_web_page.specs.declared.texts.view_js.TheConstants as view_js

-- where the file is
abbrev pub path_to : File → List ℕ
path_to file.IndexHtml = codes "/"
path_to file.AppJs = codes "/app.js"
path_to file.ControlsJs = codes "/controls.js"
path_to file.CycleJs = codes "/cycle.js"
path_to file.DialJs = codes "/dial.js"
path_to file.DomJs = codes "/dom.js"
path_to file.EditorJs = codes "/editor.js"
path_to file.ExplainJs = codes "/explain.js"
path_to file.FaultsJs = codes "/faults.js"
path_to file.FilesJs = codes "/files.js"
path_to file.FilmJs = codes "/film.js"
path_to file.ForthJs = codes "/forth.js"
path_to file.GalleryJs = codes "/gallery.js"
path_to file.GalleryMenuJs = codes "/gallery_menu.js"
path_to file.GesturesJs = codes "/gestures.js"
path_to file.HelpJs = codes "/help.js"
path_to file.HostJs = codes "/host.js"
path_to file.JournalJs = codes "/journal.js"
path_to file.KeysJs = codes "/keys.js"
path_to file.LinesJs = codes "/lines.js"
path_to file.LinkJs = codes "/link.js"
path_to file.MachineJs = codes "/machine.js"
path_to file.PaletteJs = codes "/palette.js"
path_to file.PanelJs = codes "/panel.js"
path_to file.PatternsJs = codes "/patterns.js"
path_to file.PieceJs = codes "/piece.js"
path_to file.PlanesJs = codes "/planes.js"
path_to file.QueueJs = codes "/queue.js"
path_to file.ScreenJs = codes "/screen.js"
path_to file.ShapesJs = codes "/shapes.js"
path_to file.StorageJs = codes "/storage.js"
path_to file.StyleCss = codes "/style.css"
path_to file.ToolsJs = codes "/tools.js"
path_to file.TorusJs = codes "/torus.js"
path_to file.TroubleJs = codes "/trouble.js"
path_to file.ViewJs = codes "/view.js"

-- no file is at the path
abbrev pub IsNowhere : List ℕ → Type 0
IsNowhere path = (f : File) → path ≢ path_to f

-- what it is
abbrev pub kind_of : File → Kind
kind_of file.IndexHtml = kind.Html
kind_of file.AppJs = kind.Script
kind_of file.ControlsJs = kind.Script
kind_of file.CycleJs = kind.Script
kind_of file.DialJs = kind.Script
kind_of file.DomJs = kind.Script
kind_of file.EditorJs = kind.Script
kind_of file.ExplainJs = kind.Script
kind_of file.FaultsJs = kind.Script
kind_of file.FilesJs = kind.Script
kind_of file.FilmJs = kind.Script
kind_of file.ForthJs = kind.Script
kind_of file.GalleryJs = kind.Script
kind_of file.GalleryMenuJs = kind.Script
kind_of file.GesturesJs = kind.Script
kind_of file.HelpJs = kind.Script
kind_of file.HostJs = kind.Script
kind_of file.JournalJs = kind.Script
kind_of file.KeysJs = kind.Script
kind_of file.LinesJs = kind.Script
kind_of file.LinkJs = kind.Script
kind_of file.MachineJs = kind.Script
kind_of file.PaletteJs = kind.Script
kind_of file.PanelJs = kind.Script
kind_of file.PatternsJs = kind.Script
kind_of file.PieceJs = kind.Script
kind_of file.PlanesJs = kind.Script
kind_of file.QueueJs = kind.Script
kind_of file.ScreenJs = kind.Script
kind_of file.ShapesJs = kind.Script
kind_of file.StorageJs = kind.Script
kind_of file.StyleCss = kind.Style
kind_of file.ToolsJs = kind.Script
kind_of file.TorusJs = kind.Script
kind_of file.TroubleJs = kind.Script
kind_of file.ViewJs = kind.Script

-- its bytes, compressed by gzip
abbrev pub bytes_of : File → List ℕ
bytes_of file.IndexHtml = index_html.BYTES.now
bytes_of file.AppJs = app_js.BYTES.now
bytes_of file.ControlsJs = controls_js.BYTES.now
bytes_of file.CycleJs = cycle_js.BYTES.now
bytes_of file.DialJs = dial_js.BYTES.now
bytes_of file.DomJs = dom_js.BYTES.now
bytes_of file.EditorJs = editor_js.BYTES.now
bytes_of file.ExplainJs = explain_js.BYTES.now
bytes_of file.FaultsJs = faults_js.BYTES.now
bytes_of file.FilesJs = files_js.BYTES.now
bytes_of file.FilmJs = film_js.BYTES.now
bytes_of file.ForthJs = forth_js.BYTES.now
bytes_of file.GalleryJs = gallery_js.BYTES.now
bytes_of file.GalleryMenuJs = gallery_menu_js.BYTES.now
bytes_of file.GesturesJs = gestures_js.BYTES.now
bytes_of file.HelpJs = help_js.BYTES.now
bytes_of file.HostJs = host_js.BYTES.now
bytes_of file.JournalJs = journal_js.BYTES.now
bytes_of file.KeysJs = keys_js.BYTES.now
bytes_of file.LinesJs = lines_js.BYTES.now
bytes_of file.LinkJs = link_js.BYTES.now
bytes_of file.MachineJs = machine_js.BYTES.now
bytes_of file.PaletteJs = palette_js.BYTES.now
bytes_of file.PanelJs = panel_js.BYTES.now
bytes_of file.PatternsJs = patterns_js.BYTES.now
bytes_of file.PieceJs = piece_js.BYTES.now
bytes_of file.PlanesJs = planes_js.BYTES.now
bytes_of file.QueueJs = queue_js.BYTES.now
bytes_of file.ScreenJs = screen_js.BYTES.now
bytes_of file.ShapesJs = shapes_js.BYTES.now
bytes_of file.StorageJs = storage_js.BYTES.now
bytes_of file.StyleCss = style_css.BYTES.now
bytes_of file.ToolsJs = tools_js.BYTES.now
bytes_of file.TorusJs = torus_js.BYTES.now
bytes_of file.TroubleJs = trouble_js.BYTES.now
bytes_of file.ViewJs = view_js.BYTES.now
